-- Calls one after the other.
use Rattle.std.proofs.Common.{◌≡◌, ℕ, ◌+◌, ◌<◌, List, [], ◌∷◌, ◌++◌, length, get_or, take, Ok, Err, Result, sym, ap, ◌∙◌, subst}
use Rattle.std.specs.Result.{MatchResult, IsOkAnd}
use Rattle.std.proofs.lemmas.List.{take_more}
use Rattle.book.specs.declared.books.Book.{Book}
use Rattle.book.specs.declared.refusals.Refusal.{Refusal}
use Rattle.book.specs.declared.calls.Answer.{Answer}
use Rattle.book.specs.declared.calls.Answer.TheVariants.{Number}
use Rattle.book.specs.declared.calls.Call.{Call}
use Rattle.book.specs.declared.calls.Call.TheVariants.{Table, Row, Reweigh, Strike, Load}
use Rattle.book.specs.Books.{ledger, Obeys}
use Rattle.book.specs.Ledgers.{Ledger, empty}
use Rattle.book.specs.Rules.{Verdict, refused, accepted, left_by}
use Rattle.book.specs.Runs.{Judged, Leads, LedgerOf, answering}
use Rattle.book.proofs.Loading.{load_one}

-- a call that obeys its verdict leaves the ledger that the verdict leaves
obeyed : {A : Type 0} (v : Verdict A Ledger) (r : Result A Refusal) (before after : Book) → Obeys ledger v r before after → ledger after ≡ left_by (ledger before) v
obeyed (refused t) r before after h = ap ledger h.1
obeyed (accepted a l) r before after h = h.1

-- a call whose answer is put another way, as `map` does it
pub answered : {A B : Type 0} (f : A → B) {P : A → B → Type 0} (v : Verdict A Ledger) (r : Result A Refusal) (s : Result B Refusal) (before after : Book)
    → ((a : A) (b : B) → P a b → b ≡ f a) → MatchResult r (λ a. IsOkAnd s (P a)) (λ e. s ≡ Err e) → Obeys ledger v r before after → Obeys ledger (answering f v) s before after
answered f (refused t) (Ok a) s before after same m ((e, is, tells), stays) = absurd cc
answered f (refused t) (Err d) s before after same m ((e, is, tells), stays) = (let n : d ≡ e = cc in (e, m ∙ ap Err n, tells), stays)
answered f (accepted a l) (Ok c) (Ok b) before after same m (is, stays) = let n : c ≡ a = cc in (ap Ok (same c b m ∙ ap f n), stays)
answered f (accepted a l) (Ok c) (Err d) before after same m h = elim m [ ]
answered f (accepted a l) (Err d) s before after same m (is, stays) = absurd cc

-- one call after the others
leads_on : (from m to : Ledger) (cs : List Call) (c : Call) (v : Verdict Answer Ledger) → Leads from cs m → Judged m c v → to ≡ left_by m v → Leads from (cs ++ (c ∷ [])) to
leads_on from m to [] c v e j t = (v, subst (λ l. Judged l c v) e j, t ∙ ap (λ l. left_by l v) e)
leads_on from m to (d ∷ cs) c v (w, k, rest) j t = (w, k, leads_on (left_by from w) m to cs c v rest j t)

-- one turn of a run
pub run_more : (calls : List Call) (i : ℕ) (d : Call) (before after : Book) (r : Result Answer Refusal) → i < length calls
    → LedgerOf (take i calls) (ledger before) → (v : Verdict Answer Ledger) → Judged (ledger before) (get_or calls i d) v → Obeys ledger v r before after
    → LedgerOf (take (i + 1) calls) (ledger after)
run_more calls i d before after r h led v j o =
    subst (λ cs. LedgerOf cs (ledger after)) (sym (take_more calls i d h))
    (leads_on empty (ledger before) (ledger after) (take i calls) (get_or calls i d) v led j (obeyed v r before after o))

-- the rules give one verdict on a call
judged_one : (l : Ledger) (c : Call) (v w : Verdict Answer Ledger) → Judged l c v → Judged l c w → v ≡ w
judged_one l (Table width) v w e d = e ∙ sym d
judged_one l (Row table cells sureness) v w e d = e ∙ sym d
judged_one l (Reweigh row sureness) v w e d = e ∙ sym d
judged_one l (Strike row) v w e d = e ∙ sym d
judged_one l (Load file) v w (x, j, e) (y, k, d) = e ∙ ap (answering Number) (load_one l file.now x y j k) ∙ sym d

-- a list of calls leads to one ledger
pub leads_one : (from l m : Ledger) (cs : List Call) → Leads from cs l → Leads from cs m → l ≡ m
leads_one from l m [] e d = e ∙ sym d
leads_one from l m (c ∷ cs) (v, j, rest) (w, k, others) =
    leads_one (left_by from v) l m cs rest (subst (λ u. Leads (left_by from u) cs m) (judged_one from c w v k j) others)
