-- Calls as data, and the ledger of a list of calls.
use Rattle.std.specs.Prelude.{◌≡◌, ℕ, List, [], ◌∷◌}
use Rattle.book.specs.declared.calls.Answer.{Answer}
use Rattle.book.specs.declared.calls.Answer.TheVariants.{Number, Done}
use Rattle.book.specs.declared.calls.Call.{Call}
use Rattle.book.specs.declared.calls.Call.TheVariants.{Table, Row, Reweigh, Strike, Load}
use Rattle.book.specs.Files.{LoadJudged}
use Rattle.book.specs.Ledgers.{Ledger, empty}
use Rattle.book.specs.Rules.{Verdict, refused, accepted, left_by, table_verdict, row_verdict, reweigh_verdict, strike_verdict}

-- the verdict with its answer put another way
abbrev pub answering : {A B : Type 0} → (A → B) → Verdict A Ledger → Verdict B Ledger
answering f (refused t) = refused t
answering f (accepted a l) = accepted (f a) l

-- the verdict that the rules give on a call
abbrev pub Judged : Ledger → Call → Verdict Answer Ledger → Type 0
Judged l (Table width) v = v ≡ answering Number (table_verdict l width)
Judged l (Row table cells sureness) v = v ≡ answering Number (row_verdict l table cells.now sureness)
Judged l (Reweigh row sureness) v = v ≡ answering (λ _. Done) (reweigh_verdict l row sureness)
Judged l (Strike row) v = v ≡ answering (λ _. Done) (strike_verdict l row)
Judged l (Load file) v = (w : Verdict ℕ Ledger) × LoadJudged l file.now w × (v ≡ answering Number w)

-- a list of calls, one after the other, leads from one ledger to another
abbrev pub Leads : Ledger → List Call → Ledger → Type 0
Leads from [] to = to ≡ from
Leads from (c ∷ cs) to = (v : Verdict Answer Ledger) × Judged from c v × Leads (left_by from v) cs to

-- the ledger of a list of calls, made on a new book
abbrev pub LedgerOf : List Call → Ledger → Type 0
LedgerOf calls l = Leads empty calls l
