-- What holds of the rows of a form holds of the rows of its nodes.
use Rattle.std.proofs.Common.{◌≡◌, ℕ, ◌<◌, List, [], ◌∷◌, ◌++◌, get_or, sym, ◌∙◌, subst, arith}
use Rattle.std.specs.List.{AllByRecursion}
use Rattle.std.proofs.ByRecursion.{All-get_or}
use Rattle.tree.specs.Formulas.{Formula, row, under, rows, Form, never, form, form_rows}
use Rattle.tree.specs.declared.Kind.{Kind}
use Rattle.tree.specs.declared.Node.{Node}
use Rattle.tree.specs.declared.Node.TheVariants.{Vacant}
use Rattle.tree.specs.Layout.{alone, laid, parts}
use Rattle.tree.specs.Passes.{Placed}
use Rattle.tree.proofs.Spreads.{all_spread}
use Rattle.tree.proofs.Nested.{row_node, at_node}

pub all_halves : (P : ℕ → Type 0) (xs ys : List ℕ) → AllByRecursion P (xs ++ ys) → AllByRecursion P xs × AllByRecursion P ys
all_halves P [] ys a = (tt, a)
all_halves P (x ∷ xs) ys a = let (b, c) = all_halves P xs ys a.1 in ((a.0, b), c)

-- of a formula that is a row, the row
abbrev Of : (ℕ → Type 0) → Formula → Type 0
Of P f = (r : ℕ) → f ≡ row r → P r

not_row : (P : ℕ → Type 0) (k : Kind) (f g : Formula) → Of P (under k f g)
not_row P k f g r e = absurd (let z : ◌≡◌ {A = ℕ} 0 1 = cc in let y : ⊥ = omega arith in y)

of_parts : (P : ℕ → Type 0) (F : Form) → AllByRecursion P (form_rows F) → AllByRecursion (Of P) (parts F)
of_parts P never a = tt
of_parts P (form f) a = all_spread (λ g. AllByRecursion P (rows g)) (Of P)
    (λ q b r e. let i : q ≡ r = cc in subst P i b.0)
    (λ k g h b. let (c, d) = all_halves P (rows g) (rows h) b in (not_row P k g h, c, d)) alone f a

-- rows below n have places in a list of n
pub placed : (ns : List Node) (F : Form) → ns ≡ laid F → (n : ℕ) → AllByRecursion (λ r. r < n) (form_rows F) → Placed ns n
placed ns F l n a k r h e =
    let (m, i) = at_node ns F l k Vacant h in
    All-get_or (Of (λ q. q < n)) (parts F) k (row 0) m (of_parts (λ q. q < n) F a) r (row_node (get_or (parts F) k (row 0)) r (sym i ∙ e))
