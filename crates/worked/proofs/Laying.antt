-- Rows laid out under one node.
use Rattle.std.proofs.Common.{◌≡◌, ℕ, suc, ◌+◌, ◌<◌, ◌≤◌, Bool, true, false, ◌&&◌, leb, List, [], ◌∷◌, map, length, get_or, take, sym, refl, ap, ◌∙◌, subst, arith}
use Rattle.std.specs.List.{flat_map, AllByRecursion}
use Rattle.std.proofs.lemmas.List.{length-map, take_more, map_push}
use Rattle.std.proofs.lemmas.Bool.{leb-true, and_parts}
use Rattle.tree.specs.declared.Kind.{Kind}
use Rattle.tree.specs.declared.Node.{Node}
use Rattle.tree.specs.Formulas.{row, rows, Form, form}
use Rattle.tree.specs.Nodes.{written}
use Rattle.tree.specs.Layout.{spans, node, nodes_of, laid, Lays}
use Rattle.tree.specs.Trees.{is_a, lowest, Ascending, Children, LaidBetween, over}
use Rattle.tree.specs.Passes.{Placed}
use Rattle.tree.proofs.Building.{between_more, laid_first, is_over}
use Rattle.tree.proofs.Placing.{placed}

no_kind : (k : Kind) (rs : List ℕ) → AllByRecursion (λ c. is_a k c ≡ false) (map row rs)
no_kind k [] = tt
no_kind k (r ∷ rs) = (refl, no_kind k rs)

lowest_rows : (rs : List ℕ) → map lowest (map row rs) ≡ rs
lowest_rows [] = refl
lowest_rows (r ∷ rs) = ap (λ xs. r ∷ xs) (lowest_rows rs)

pub rows_children : (k : Kind) (rs : List ℕ) → 2 ≤ length rs → Ascending rs → Children k (map row rs)
rows_children k rs h a = record { two = rw (length-map rs row) h; other = no_kind k rs; order = rw (lowest_rows rs) a }

-- one row more
pub row_more : (m now next : List Node) (at i end end' : ℕ) (rs : List ℕ) → at ≤ length m → i < length rs → LaidBetween m now at end (map row (take i rs))
    → next ≡ written now end (nodes_of (row (get_or rs i 0))) → end' ≡ end + 1 → LaidBetween m next at end' (map row (take (i + 1) rs))
row_more m now next at i end end' rs h l p q e =
    subst (LaidBetween m next at end') (sym (map_push row (take i rs) (get_or rs i 0)) ∙ ap (map row) (sym (take_more rs i 0 l)))
    (between_more m now next at end end' (map row (take i rs)) (row (get_or rs i 0)) h p q e)

module _ (k : Kind) (rs : List ℕ) (two : 2 ≤ length rs) (order : Ascending rs) where
  abbrev pub rows_form : Form
  rows_form = form (over k (map row rs))

  own_rows : (xs : List ℕ) → flat_map rows (map row xs) ≡ xs
  own_rows [] = refl
  own_rows (x ∷ xs) = ap (λ ys. x ∷ ys) (own_rows xs)

  spans_length : (xs : List ℕ) → length (flat_map spans (map row xs)) ≡ length xs
  spans_length [] = refl
  spans_length (x ∷ xs) = ap suc (spans_length xs)

  pub nodes_length : length (nodes_of (over k (map row rs))) ≡ 1 + length rs
  nodes_length = omega (arith, length-map (spans (over k (map row rs))) node, ap length (is_over k (map row rs) (rows_children k rs two order)).spanning, spans_length rs)

  pub rows_laid : (m now : List Node) (n : ℕ) → now ≡ written m 0 (nodes_of (over k (map row rs))) → n ≡ 1 + length rs → take n now ≡ laid rows_form
  rows_laid m now n e l = subst (λ j. take j now ≡ laid rows_form) (nodes_length ∙ sym l) (laid_first m now (over k (map row rs)) e)

  pub rows_placed : (ns : List Node) → ns ≡ laid rows_form → (n : ℕ) → AllByRecursion (λ r. r < n) rs → Placed ns n
  rows_placed ns e n a = placed ns rows_form e n (rw ((is_over k (map row rs) (rows_children k rs two order)).naming, own_rows rs) a)

  -- laid out from the first place on, the rows are a form, and have places in a list that is longer than each
  pub rows_first : (m now : List Node) (n b : ℕ) → now ≡ written m 0 (nodes_of (over k (map row rs))) → n ≡ 1 + length rs → AllByRecursion (λ r. r < b) rs → Lays (take n now) × Placed (take n now) b
  rows_first m now n b e l a = let s = rows_laid m now n e l in ((rows_form, s), rows_placed (take n now) s b a)

-- numbers that ascend step by step
abbrev ascends : ℕ → List ℕ → Bool
ascends n [] = true
ascends n (m ∷ ms) = leb (n + 1) m && ascends m ms

all_above : (n m : ℕ) (ms : List ℕ) → n < m → ascends m ms ≡ true → AllByRecursion (λ x. n < x) ms
all_above n m [] h e = tt
all_above n m (x ∷ xs) h e = let (p, q) = and_parts (leb (m + 1) x) (ascends x xs) e in let l = leb-true (m + 1) x p in (omega arith, all_above n x xs (omega arith) q)

pub ascending : (n : ℕ) (ms : List ℕ) → ascends n ms ≡ true → Ascending (n ∷ ms)
ascending n [] e = (tt, tt)
ascending n (m ∷ ms) e = let (p, q) = and_parts (leb (n + 1) m) (ascends m ms) e in let l = leb-true (n + 1) m p in ((omega arith, all_above n m ms (omega arith) q), ascending m ms q)
