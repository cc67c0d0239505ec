-- The formulas at the nodes, and the children of a node.
use Rattle.std.proofs.Common.{◌≡◌, ℕ, ◌+◌, ◌*◌, ◌≤◌, true, false, List, [], ◌∷◌, ◌++◌, length, sym, refl, ap, ◌∙◌, append-nil, arith, length-append}
use Rattle.std.specs.List.{flat_map, AllByRecursion}
use Rattle.std.proofs.lemmas.List.{flat_map_more}
use Rattle.std.proofs.ByRecursion.{All-append}
use Rattle.std.proofs.lemmas.Bool.{both_ways}
use Rattle.tree.specs.Formulas.{Formula, row, under, rows}
use Rattle.tree.specs.declared.Kind.{Kind}
use Rattle.tree.specs.declared.Kind.TheVariants.{And, Or}
use Rattle.tree.specs.Layout.{Stand, alone, among, own, spread, spans}
use Rattle.tree.specs.Trees.{is_a, kids, gather, over}

-- what holds of a list with a formula before it and without it holds however the formula stands
pub with_own : (Q : List Formula → Type 0) (s : Stand) (k : Kind) (f : Formula) (fs : List Formula) → Q fs → Q (f ∷ fs) → Q (own s k f ++ fs)
with_own Q alone k f fs p q = q
with_own Q (among And) And f fs p q = p
with_own Q (among And) Or f fs p q = q
with_own Q (among Or) And f fs p q = q
with_own Q (among Or) Or f fs p q = p

-- what goes down from a formula to its parts gives what holds of the formulas at all its nodes
pub all_spread : (Q P : Formula → Type 0) → ((r : ℕ) → Q (row r) → P (row r)) → ((k : Kind) (f g : Formula) → Q (under k f g) → P (under k f g) × Q f × Q g)
    → (s : Stand) (f : Formula) → Q f → AllByRecursion P (spread s f)
all_spread Q P leaf down s (row r) q = (leaf r q, tt)
all_spread Q P leaf down s (under k f g) q =
    let (p, a, b) = down k f g q in
    let ps = All-append P _ _ (all_spread Q P leaf down (among k) f a) (all_spread Q P leaf down alone g b) in
    with_own (AllByRecursion P) s k (under k f g) _ ps (p, ps)

-- a formula of n rows has at most 2 n − 1 nodes
pub few : (s : Stand) (f : Formula) → length (spread s f) + 1 ≤ 2 * length (rows f)
few s (row r) = omega arith
few s (under k f g) =
    let a = length-append (spread (among k) f) (spans g) in
    let b = length-append (rows f) (rows g) in
    let c = few (among k) f in
    let d = few alone g in
    with_own (λ fs. length fs + 1 ≤ 2 * length (rows f ++ rows g)) s k (under k f g) _ (omega arith) (omega arith)

-- a formula stands first among its own
pub leads : (f : Formula) → (fs : List Formula) × (spans f ≡ f ∷ fs)
leads (row r) = ([], refl)
leads (under k f g) = (_, refl)

pub spans_under : (k : Kind) (f g : Formula) → spans (under k f g) ≡ under k f g ∷ spread (among k) (under k f g)
spans_under And f g = refl
spans_under Or f g = refl

-- children

pub kids_under : (k : Kind) (f g : Formula) → kids k (under k f g) ≡ kids k f ++ (g ∷ [])
kids_under And f g = refl
kids_under Or f g = refl

pub kids_other : (k : Kind) (f : Formula) → is_a k f ≡ false → kids k f ≡ f ∷ []
kids_other k (row r) e = refl
kids_other And (under And f g) e = absurd (both_ways true e refl)
kids_other And (under Or f g) e = refl
kids_other Or (under And f g) e = refl
kids_other Or (under Or f g) e = absurd (both_ways true e refl)

-- what holds of what is its own only child, and of one child more, holds of all
pub each_kids : (P : Kind → Formula → Type 0) → ((k : Kind) (f : Formula) → kids k f ≡ f ∷ [] → spread (among k) f ≡ spans f → P k f) → ((k : Kind) (f g : Formula) → P k f → P k (under k f g))
    → (k : Kind) (f : Formula) → P k f
each_kids P one more k (row r) = one k (row r) refl refl
each_kids P one more And (under And f g) = more And f g (each_kids P one more And f)
each_kids P one more And (under Or f g) = one And (under Or f g) refl refl
each_kids P one more Or (under And f g) = one Or (under And f g) refl refl
each_kids P one more Or (under Or f g) = more Or f g (each_kids P one more Or f)

abbrev Split : Kind → Formula → Type 0
Split k f = (c : Formula) × (cs : List Formula) × (kids k f ≡ c ∷ cs)

pub kids_split : (k : Kind) (f : Formula) → Split k f
kids_split = each_kids Split (λ k f e s. (f, [], e)) (λ k f g (c, cs, e). (c, cs ++ (g ∷ []), kids_under k f g ∙ ap (λ xs. xs ++ (g ∷ [])) e))

spread_under : (k : Kind) (f g : Formula) → spread (among k) (under k f g) ≡ spread (among k) f ++ spans g
spread_under And f g = refl
spread_under Or f g = refl

-- the children's own formulas, child after child
pub spread_kids : (k : Kind) (f : Formula) → spread (among k) f ≡ flat_map spans (kids k f)
spread_kids = each_kids (λ k f. spread (among k) f ≡ flat_map spans (kids k f))
    (λ k f e s. s ∙ sym (append-nil (spans f)) ∙ ap (flat_map spans) (sym e))
    (λ k f g p. spread_under k f g ∙ ap (λ fs. fs ++ spans g) p ∙ flat_map_more spans [] (kids k f) g ∙ ap (flat_map spans) (sym (kids_under k f g)))

gather_push : (k : Kind) (f : Formula) (cs : List Formula) (c : Formula) → gather k f (cs ++ (c ∷ [])) ≡ under k (gather k f cs) c
gather_push k f [] c = refl
gather_push k f (d ∷ cs) c = gather_push k (under k f d) cs c

-- a formula is the one over its children
pub over_kids : (k : Kind) (f : Formula) → over k (kids k f) ≡ f
over_kids = each_kids (λ k f. over k (kids k f) ≡ f)
    (λ k f e s. ap (over k) e)
    (λ k f g p. let (c, cs, e) = kids_split k f in
    ap (over k) (kids_under k f g ∙ ap (λ xs. xs ++ (g ∷ [])) e) ∙ gather_push k c cs g ∙ ap (λ h. under k h g) (sym (ap (over k) e) ∙ p))
