-- Laying out a formula piece by piece, and what the formula over some children is.
use Rattle.std.proofs.Common.{◌≡◌, ℕ, ◌+◌, ◌-◌, ◌<◌, ◌≤◌, Bool, true, false, List, [], ◌∷◌, ◌++◌, map, length, get_or, take, drop, set, sym, refl, ap, ◌∙◌, subst, ap₂, append_assoc, append-nil, add-zero, add-one, arith, length-append, length-take-le, take-suc, take_at}
use mathlib.Core.List.{map-append}
use lib.Seq.{set_at, set_split, paste}
use Rattle.std.specs.List.{flat_map, AllByRecursion}
use Rattle.std.proofs.lemmas.List.{length-map, flat_map_more, take-append-drop}
use Rattle.std.proofs.lemmas.List.Edits.{paste_all, paste-paste}
use Rattle.std.proofs.ByRecursion.{All-append}
use Rattle.tree.specs.Formulas.{World, Formula, under, connect, holds, rows}
use Rattle.tree.specs.declared.Kind.{Kind}
use Rattle.tree.specs.declared.Kind.TheVariants.{And, Or}
use Rattle.tree.specs.declared.Node.{Node}
use Rattle.tree.specs.declared.Node.TheVariants.{Vacant}
use Rattle.tree.specs.Nodes.{inner, written}
use Rattle.tree.specs.Layout.{alone, spans, node, nodes_of}
use Rattle.tree.specs.Trees.{is_a, kids, Children, Proper, hold, gather, over, IsOver, LaidBetween}
use Rattle.tree.proofs.Spreads.{few, spans_under, kids_under, kids_other, spread_kids}

-- what is joined

map_joined : (cs : List Formula) → flat_map nodes_of cs ≡ map node (flat_map spans cs)
map_joined [] = refl
map_joined (c ∷ cs) = ap (λ ns. nodes_of c ++ ns) (map_joined cs) ∙ sym (map-append node (spans c) (flat_map spans cs))

all_joined : (P : Formula → Type 0) (cs : List Formula) → AllByRecursion (λ c. AllByRecursion P (spans c)) cs → AllByRecursion P (flat_map spans cs)
all_joined P [] a = tt
all_joined P (c ∷ cs) a = All-append P (spans c) (flat_map spans cs) a.0 (all_joined P cs a.1)

-- the formula over some children

kids_gather : (k : Kind) (f : Formula) (cs : List Formula) → kids k (gather k f cs) ≡ kids k f ++ cs
kids_gather k f [] = sym (append-nil (kids k f))
kids_gather k f (c ∷ cs) = kids_gather k (under k f c) cs ∙ ap (λ xs. xs ++ cs) (kids_under k f c) ∙ append_assoc (kids k f) (c ∷ []) cs

kids_over : (k : Kind) (cs : List Formula) → 1 ≤ length cs → AllByRecursion (λ c. is_a k c ≡ false) cs → kids k (over k cs) ≡ cs
kids_over k [] h a = absurd (let z : ⊥ = omega arith in z)
kids_over k (c ∷ cs) h a = kids_gather k c cs ∙ ap (λ xs. xs ++ cs) (kids_other k c a.0)

connect_assoc : (k : Kind) (a b c : Bool) → connect k (connect k a b) c ≡ connect k a (connect k b c)
connect_assoc And true b c = refl
connect_assoc And false b c = refl
connect_assoc Or true b c = refl
connect_assoc Or false b c = refl

hold_none : (k : Kind) (b : Bool) (w : World) → b ≡ connect k b (hold k [] w)
hold_none And true w = refl
hold_none And false w = refl
hold_none Or true w = refl
hold_none Or false w = refl

holds_gather : (k : Kind) (f : Formula) (cs : List Formula) (w : World) → holds (gather k f cs) w ≡ connect k (holds f w) (hold k cs w)
holds_gather k f [] w = hold_none k (holds f w) w
holds_gather k f (c ∷ cs) w = holds_gather k (under k f c) cs w ∙ connect_assoc k (holds f w) (holds c w) (hold k cs w)

rows_gather : (k : Kind) (f : Formula) (cs : List Formula) → rows (gather k f cs) ≡ rows f ++ flat_map rows cs
rows_gather k f [] = sym (append-nil (rows f))
rows_gather k f (c ∷ cs) = rows_gather k (under k f c) cs ∙ append_assoc (rows f) (rows c) (flat_map rows cs)

-- two children or more are under a node
gather_under : (k : Kind) (f g : Formula) (cs : List Formula) → (f' : Formula) × (g' : Formula) × (gather k (under k f g) cs ≡ under k f' g')
gather_under k f g [] = (f, g, refl)
gather_under k f g (c ∷ cs) = gather_under k (under k f g) c cs

proper : (k : Kind) (f g h : Formula) → h ≡ under k f g → Children k (kids k h) → Proper h
proper k f g h e c = subst Proper (sym e) (subst (λ i. Children k (kids k i)) e c)

pub is_over : (k : Kind) (cs : List Formula) → Children k cs → IsOver k cs
is_over k [] ch = absurd (let z : ⊥ = omega (arith, ch.two) in z)
is_over k (c ∷ []) ch = absurd (let z : ⊥ = omega (arith, ch.two) in z)
is_over k (c ∷ d ∷ cs) ch =
    let h = over k (c ∷ d ∷ cs) in
    let (f, g, e) = gather_under k c d cs in
    let own = kids_over k (c ∷ d ∷ cs) (omega arith) ch.other in
    let all : spans h ≡ h ∷ flat_map spans (c ∷ d ∷ cs) = ap spans e ∙ spans_under k f g ∙ ap₂ (λ x xs. x ∷ xs) (sym e) (spread_kids k (under k f g) ∙ ap (λ x. flat_map spans (kids k x)) (sym e) ∙ ap (flat_map spans) own) in
    record {
      children = own;
      holding = holds_gather k c (d ∷ cs);
      naming = rows_gather k c (d ∷ cs);
      canonical = λ a. subst (AllByRecursion Proper) (sym all) (proper k f g h e (subst (Children k) (sym own) ch), all_joined Proper (c ∷ d ∷ cs) a);
      spanning = all;
      few = few alone h;
    }

-- its nodes: its own, and child after child
nodes_over : (k : Kind) (cs : List Formula) → Children k cs → nodes_of (over k cs) ≡ inner k (1 + length (flat_map nodes_of cs)) ∷ flat_map nodes_of cs
nodes_over k [] ch = absurd (let z : ⊥ = omega (arith, ch.two) in z)
nodes_over k (c ∷ []) ch = absurd (let z : ⊥ = omega (arith, ch.two) in z)
nodes_over k (c ∷ d ∷ cs) ch =
    let h = over k (c ∷ d ∷ cs) in
    let (f, g, e) = gather_under k c d cs in
    let s = (is_over k (c ∷ d ∷ cs) ch).spanning in
    let m = map_joined (c ∷ d ∷ cs) in
    let n : length (spans (under k f g)) ≡ 1 + length (flat_map nodes_of (c ∷ d ∷ cs)) = omega (arith, ap (λ x. length (spans x)) e, ap length s, ap length m, length-map (flat_map spans (c ∷ d ∷ cs)) node) in
    ap (map node) s ∙ ap₂ (λ x xs. x ∷ xs) (ap node e ∙ ap (inner k) n) (sym m)

-- writing a node just before what is written
pub written_before : (m : List Node) (at : ℕ) (x : Node) (ns : List Node) → at < length m → set (written m (at + 1) ns) at x ≡ written m at (x ∷ ns)
written_before m at x ns h =
    let r = ns ++ drop (at + 1 + length ns) m in
    let t : take (at + 1) m ++ r ≡ take at m ++ (get_or m at Vacant ∷ r) = ap (λ n. take n m ++ r) (add-one at) ∙ ap (λ xs. xs ++ r) (take-suc m at Vacant h) ∙ append_assoc (take at m) (get_or m at Vacant ∷ []) r in
    let n : at + 1 + length ns ≡ at + length (x ∷ ns) = omega arith in
    ap (λ xs. set xs at x) t ∙ set_at (take at m) (get_or m at Vacant) r x at (length-take-le at m (omega arith)) ∙ ap (λ j. take at m ++ (x ∷ (ns ++ drop j m))) n

pub laid_over : (k : Kind) (now m : List Node) (at end : ℕ) (cs : List Formula) → Children k cs → at < length m → LaidBetween m now (at + 1) end cs
    → set now at (inner k (end - at)) ≡ written m at (nodes_of (over k cs))
laid_over k now m at end cs ch h (e, f) =
    let n : end - at ≡ 1 + length (flat_map nodes_of cs) = omega arith in
    ap₂ (λ xs j. set xs at (inner k j)) e n ∙ written_before m at (inner k (1 + length (flat_map nodes_of cs))) (flat_map nodes_of cs) h ∙ ap (written m at) (sym (nodes_over k cs ch))

-- one node written
pub written_one : (m : List Node) (at : ℕ) (x : Node) → at < length m → set m at x ≡ written m at (x ∷ [])
written_one m at x h = set_split m at x h ∙ ap (λ n. take at m ++ (x ∷ drop n m)) (sym (add-one at))

-- what is written one after the other is written at once
pub written_then : (m : List Node) (at : ℕ) (ns os : List Node) → at ≤ length m → written (written m at ns) (at + length ns) os ≡ written m at (ns ++ os)
written_then m at ns os h =
    ap (λ x. written x (at + length ns) os) (whole m at ns) ∙ whole (paste m at ns (length ns)) (at + length ns) os
    ∙ paste-paste m at ns os (length ns) (length os) refl refl h
    ∙ ap (paste m at (ns ++ os)) (sym (length-append ns os))
    ∙ sym (whole m at (ns ++ os))
  where
    whole : (d : List Node) (i : ℕ) (s : List Node) → written d i s ≡ paste d i s (length s)
    whole d i s = sym (paste_all d i s (length s) refl)

-- no formula yet, and one more

pub between_none : (m : List Node) (at : ℕ) → LaidBetween m m at at []
between_none m at = (sym (take-append-drop at m) ∙ ap (λ n. take at m ++ drop n m) (sym (add-zero at)), omega arith)

pub between_more : (m now next : List Node) (at end end' : ℕ) (cs : List Formula) (c : Formula) → at ≤ length m → LaidBetween m now at end cs
    → next ≡ written now end (nodes_of c) → end' ≡ end + length (nodes_of c) → LaidBetween m next at end' (cs ++ (c ∷ []))
between_more m now next at end end' cs c h (e, f) g i =
    let j : flat_map nodes_of (cs ++ (c ∷ [])) ≡ flat_map nodes_of cs ++ nodes_of c = sym (flat_map_more nodes_of [] cs c) in (
      g ∙ ap₂ (λ x n. written x n (nodes_of c)) e f ∙ written_then m at (flat_map nodes_of cs) (nodes_of c) h ∙ ap (written m at) (sym j),
      omega (arith, ap length j, length-append (flat_map nodes_of cs) (nodes_of c)),
    )

-- what is laid out from the first place on
pub laid_first : (m now : List Node) (f : Formula) → now ≡ written m 0 (nodes_of f) → take (length (nodes_of f)) now ≡ nodes_of f
laid_first m now f e = ap (take (length (nodes_of f))) e ∙ take_at (nodes_of f) (drop (0 + length (nodes_of f)) m) (length (nodes_of f)) refl
