-- The nodes of a form determine it.
use Rattle.std.proofs.Common.{◌≡◌, ℕ, zero, suc, ◌≤◌, List, [], ◌∷◌, ◌++◌, map, length, get_or, take, drop, sym, refl, ap, ◌∙◌, subst, ap₂, arith, length-append, take_at}
use mathlib.Core.List.{map-append}
use Rattle.std.specs.List.{flat_map}
use Rattle.std.proofs.lemmas.List.{length-map, append_cancel_left}
use Rattle.tree.specs.Formulas.{Formula, row, under, never, form}
use Rattle.tree.specs.declared.Kind.{Kind}
use Rattle.tree.specs.declared.Node.{Node}
use Rattle.tree.specs.declared.Node.TheVariants.{Vacant, Row}
use Rattle.tree.specs.Layout.{among, spread, spans, node, nodes_of, LaidOnce}
use Rattle.tree.specs.Trees.{kids, over}
use Rattle.tree.proofs.Spreads.{leads, spans_under, spread_kids, over_kids}
use Rattle.tree.proofs.Nested.{inner_same, inner_not_row}

-- a formula with at most n nodes is told by what its nodes begin
abbrev Told : ℕ → Type 0
Told n = (f g : Formula) (xs ys : List Node) → length (spans f) ≤ n → nodes_of f ++ xs ≡ nodes_of g ++ ys → f ≡ g

told_kids : (n : ℕ) → Told n → (cs ds : List Formula) → length (flat_map spans cs) ≤ n → map node (flat_map spans cs) ≡ map node (flat_map spans ds) → cs ≡ ds
told_kids n told [] [] h e = refl
told_kids n told [] (d ∷ ds) h e =
    absurd (let z : ⊥ = omega (arith, ap length e, length-map (flat_map spans (d ∷ ds)) node, length-append (spans d) (flat_map spans ds), ap length (leads d).1) in z)
told_kids n told (c ∷ cs) [] h e =
    absurd (let z : ⊥ = omega (arith, ap length e, length-map (flat_map spans (c ∷ cs)) node, length-append (spans c) (flat_map spans cs), ap length (leads c).1) in z)
told_kids n told (c ∷ cs) (d ∷ ds) h e =
    let l = length-append (spans c) (flat_map spans cs) in
    let f : nodes_of c ++ map node (flat_map spans cs) ≡ nodes_of d ++ map node (flat_map spans ds) = sym (map-append node (spans c) (flat_map spans cs)) ∙ e ∙ map-append node (spans d) (flat_map spans ds) in
    let i : c ≡ d = told c d _ _ (omega arith) f in
    let r : map node (flat_map spans cs) ≡ map node (flat_map spans ds) = append_cancel_left (nodes_of c) _ _ (f ∙ ap (λ x. nodes_of x ++ map node (flat_map spans ds)) (sym i)) in
    ap₂ (λ x xs. x ∷ xs) i (told_kids n told cs ds (omega arith) r)

told_inner : (n : ℕ) → Told n → (k : Kind) (f g : Formula) (xs ys : List Node) → spans f ≡ f ∷ spread (among k) f → spans g ≡ g ∷ spread (among k) g
    → length (spans f) ≤ suc n → length (spans f) ≡ length (spans g) → nodes_of f ++ xs ≡ nodes_of g ++ ys → f ≡ g
told_inner n told k f g xs ys of og h same e =
    let A = flat_map spans (kids k f) in
    let B = flat_map spans (kids k g) in
    let a : spans f ≡ f ∷ A = of ∙ ap (λ fs. f ∷ fs) (spread_kids k f) in
    let b : spans g ≡ g ∷ B = og ∙ ap (λ fs. g ∷ fs) (spread_kids k g) in
    let t : map node A ++ xs ≡ map node B ++ ys = sym (ap (λ fs. drop 1 (map node fs ++ xs)) a) ∙ ap (drop 1) e ∙ ap (λ fs. drop 1 (map node fs ++ ys)) b in
    let n₁ : length (spans f) ≡ suc (length A) = ap length a in
    let n₂ : length (spans g) ≡ suc (length B) = ap length b in
    let m₁ = length-map A node in
    let m₂ = length-map B node in
    let c : map node A ≡ map node B = sym (take_at (map node A) xs (length A) m₁) ∙ ap (take (length A)) t ∙ take_at (map node B) ys (length A) (omega arith) in
    sym (over_kids k f) ∙ ap (over k) (told_kids n told (kids k f) (kids k g) (omega arith) c) ∙ over_kids k g

abbrev head : List Node → Node
head ns = get_or ns 0 Vacant

told : (n : ℕ) → Told n
told zero f g xs ys h e = absurd (let z : ⊥ = omega (arith, ap length (leads f).1) in z)
told (suc n) (row r) (row q) xs ys h e = let i : Row r ≡ Row q = ap head e in let j : r ≡ q = cc in ap row j
told (suc n) (row r) (under k f g) xs ys h e = absurd (inner_not_row k _ r (sym (ap head e)))
told (suc n) (under k f g) (row r) xs ys h e = absurd (inner_not_row k _ r (ap head e))
told (suc n) (under k f g) (under j a b) xs ys h e =
    let (i, m) = inner_same k j _ _ (ap head e) in
    told_inner n (told n) k (under k f g) (under j a b) xs ys (spans_under k f g) (subst (λ x. spans (under j a b) ≡ under j a b ∷ spread (among x) (under j a b)) (sym i) (spans_under j a b)) h m e

pub laid_once : LaidOnce
laid_once never never e = refl
laid_once never (form g) e = absurd (let z : ⊥ = omega (arith, ap length e, length-map (spans g) node, ap length (leads g).1) in z)
laid_once (form f) never e = absurd (let z : ⊥ = omega (arith, ap length e, length-map (spans f) node, ap length (leads f).1) in z)
laid_once (form f) (form g) e = ap form (told (length (spans f)) f g [] [] (omega arith) (ap (λ ns. ns ++ []) e))
