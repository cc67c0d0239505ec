-- The ledger of a book, and what a call on a book promises.
use Rattle.std.specs.Prelude.{◌≡◌, Ok, Err, Result}
use Rattle.book.specs.declared.books.Book.{Book}
use Rattle.book.specs.declared.refusals.Refusal.{Refusal}
use Rattle.lists.specs.Items.{items_of}
use Rattle.book.specs.Ledgers.{Ledger}
use Rattle.book.specs.Refusals.{told}
use Rattle.book.specs.Rules.{Verdict, refused, accepted}

-- the ledger of a book
abbrev pub ledger : Book → Ledger
ledger b = record { widths = items_of b.widths; rows = items_of b.rows }

-- A call obeys its verdict: a refusal that tells just this leaves everything as it was; else the call gives the answer, and
-- what there is afterwards is, seen as the verdict sees it, what the verdict says.
abbrev pub Obeys : {A S V : Type 0} → (V → S) → Verdict A S → Result A Refusal → (before after : V) → Type 0
Obeys seen (refused t) r before after = ((f : Refusal) × (r ≡ Err f) × (told f ≡ t)) × (after ≡ before)
Obeys seen (accepted a s) r before after = (r ≡ Ok a) × (seen after ≡ s)
