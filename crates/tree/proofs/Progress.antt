-- Going through the children of an and or an or, first to last.
use Rattle.std.proofs.Common.{◌≡◌, ℕ, suc, ◌+◌, ◌<◌, ◌≤◌, List, [], ◌∷◌, ◌++◌, length, get_or, drop, sym, ap, ◌∙◌, subst, append_assoc, arith, length-append, drop-drop}
use Rattle.std.specs.List.{flat_map}
use Rattle.std.specs.Coded.{×_prop, le_prop}
use Rattle.std.proofs.Math.Logic.{∥∥₁_elim}
use Rattle.tree.specs.Formulas.{Formula, row, under, Form}
use Rattle.tree.specs.declared.Kind.{Kind}
use Rattle.tree.specs.declared.Node.{Node}
use Rattle.tree.specs.declared.Node.TheVariants.{Vacant}
use Rattle.tree.specs.Nodes.{size_of, inner}
use Rattle.tree.specs.Layout.{spans, node, parts, laid, Lays}
use Rattle.tree.specs.Trees.{gather, over}
use Rattle.tree.proofs.Spreads.{leads, kids_split, spread_kids, over_kids}
use Rattle.tree.proofs.Nested.{Nested, nested, Begins, begins, inner_node, at_node, count, sized}

-- some children are gone through, and the others begin at c
pub record Progress (fs : List Formula) (k : Kind) (at end c : ℕ) (P : Formula → Type 0) : Type 0 where
  pub done : Formula
  pub todo : List Formula
  pub rest : List Formula
  pub whole : gather k done todo ≡ get_or fs at (row 0)
  pub left : drop c fs ≡ flat_map spans todo ++ rest
  pub ends : c + length (flat_map spans todo) ≡ end
  pub worth : P done

-- the first child, and the others
pub record Start (fs : List Formula) (k : Kind) (at size : ℕ) : Type 0 where
  pub first : Formula
  pub others : List Formula
  pub rest : List Formula
  pub whole : gather k first others ≡ get_or fs at (row 0)
  pub room : at + size ≤ length fs
  pub child : at + 1 < at + size
  pub begin : Begins fs (at + 1) first (flat_map spans others ++ rest)
  pub ends : (at + 1 + length (spans first)) + length (flat_map spans others) ≡ at + size

pub start : (fs : List Formula) (k : Kind) (at size : ℕ) → Nested fs → at < length fs → node (get_or fs at (row 0)) ≡ inner k size → Start fs k at size
start fs k at size nested h e =
    let g = get_or fs at (row 0) in
    let (own, n) = inner_node k g size e in
    let (rest, d) = nested at h in
    let (v, us, s) = kids_split k g in
    let all : spans g ≡ g ∷ (spans v ++ flat_map spans us) = own ∙ ap (λ xs. g ∷ xs) (spread_kids k g ∙ ap (flat_map spans) s) in
    let next : drop (at + 1) fs ≡ spans v ++ (flat_map spans us ++ rest) = sym (drop-drop 1 at fs) ∙ ap (drop 1) (d ∙ ap (λ xs. xs ++ rest) all) ∙ append_assoc (spans v) (flat_map spans us) rest in
    let a = begins fs at g rest d in
    let b = begins fs (at + 1) v (flat_map spans us ++ rest) next in
    let m : length (spans g) ≡ suc (length (spans v) + length (flat_map spans us)) = ap length all ∙ ap suc (length-append (spans v) (flat_map spans us)) in
    record {
      first = v;
      others = us;
      rest = rest;
      whole = sym (ap (over k) s) ∙ over_kids k g;
      room = omega (arith, a.room);
      child = omega (arith, b.some);
      begin = b;
      ends = omega arith;
    }

pub started : (fs : List Formula) (k : Kind) (at size : ℕ) (P : Formula → Type 0) → Start fs k at size
    → P (get_or fs (at + 1) (row 0)) → Progress fs k at (at + size) (at + 1 + length (spans (get_or fs (at + 1) (row 0)))) P
started fs k at size P s p =
    let v = s.begin.here in
    record {
      done = s.first;
      todo = s.others;
      rest = s.rest;
      whole = s.whole;
      left = ap (λ f. drop (at + 1 + length (spans f)) fs) v ∙ s.begin.after;
      ends = ap (λ f. at + 1 + length (spans f) + length (flat_map spans s.others)) v ∙ s.ends;
      worth = subst P v p;
    }

module _ (fs : List Formula) (k : Kind) (at end c : ℕ) (P : Formula → Type 0) where
  -- the next child
  pub record Next (p : Progress fs k at end c P) : Type 0 where
    pub next : Formula
    pub later : List Formula
    pub whole : gather k (under k p.done next) later ≡ get_or fs at (row 0)
    pub begin : Begins fs c next (flat_map spans later ++ p.rest)
    pub ends : c + (length (spans next) + length (flat_map spans later)) ≡ end

  pub next_child : (p : Progress fs k at end c P) → c < end → Next p
  next_child p h = go p.todo p.whole p.left p.ends
    where
      go : (todo : List Formula) → gather k p.done todo ≡ get_or fs at (row 0) → drop c fs ≡ flat_map spans todo ++ p.rest → c + length (flat_map spans todo) ≡ end → Next p
      go [] w d e = absurd (let z : ⊥ = omega arith in z)
      go (t ∷ ts) w d e = record {
        next = t;
        later = ts;
        whole = w;
        begin = begins fs c t (flat_map spans ts ++ p.rest) (d ∙ append_assoc (spans t) (flat_map spans ts) p.rest);
        ends = ap (λ n. c + n) (sym (length-append (spans t) (flat_map spans ts))) ∙ e;
      }

  pub step : (Q : Formula → Type 0) → Progress fs k at end c P → c < end → ((f : Formula) → P f → Q (under k f (get_or fs c (row 0)))) → Progress fs k at end (c + length (spans (get_or fs c (row 0)))) Q
  step Q p h more =
      let n = next_child p h in
      let t = n.begin.here in
      record {
        done = under k p.done n.next;
        todo = n.later;
        rest = p.rest;
        whole = n.whole;
        left = ap (λ f. drop (c + length (spans f)) fs) t ∙ n.begin.after;
        ends = ap (λ f. c + length (spans f) + length (flat_map spans n.later)) t ∙ (omega (arith, n.ends));
        worth = subst (λ f. Q (under k p.done f)) t (more p.done p.worth);
      }

  -- no child more
  pub closed : Progress fs k at end c P → end ≤ c → P (get_or fs at (row 0))
  closed p h = go p.todo p.whole p.ends
    where
      go : (todo : List Formula) → gather k p.done todo ≡ get_or fs at (row 0) → c + length (flat_map spans todo) ≡ end → P (get_or fs at (row 0))
      go [] w e = subst P w p.worth
      go (t ∷ ts) w e = let (us, l) = leads t in absurd (let z : ⊥ = omega (arith, length-append (spans t) (flat_map spans ts), ap length l) in z)

-- the same, read off the nodes

-- a bound that holds of each form that the nodes lay out
pub lays_le : {ns : List Node} {a b : ℕ} → ∥ Lays ns ∥₁ → ((F : Form) → ns ≡ laid F → a ≤ b) → a ≤ b
lays_le lays h = ∥∥₁_elim lays le_prop (λ (F, l). h F l)

-- the nodes from a node down are there
pub within : (ns : List Node) → ∥ Lays ns ∥₁ → (c : ℕ) (d : Node) → c < length ns → (0 < size_of (get_or ns c d)) × (c + size_of (get_or ns c d) ≤ length ns)
within ns lays c d h = ∥∥₁_elim lays (×_prop le_prop le_prop) (λ (F, e).
    let s = sized ns F e c d h in
    let (k, _) = at_node ns F e c d h in
    let (rest, n) = nested F c k in
    let b = begins (parts F) c (get_or (parts F) c (row 0)) rest n in
    let m = count ns F e in
    (omega (arith, b.some), omega (arith, b.room)))

-- an and or an or among nodes that lay out a form
pub record Branch (ns : List Node) (k : Kind) (at size : ℕ) : Type 0 where
  pub lays : ∥ Lays ns ∥₁
  pub inside : at < length ns
  pub is : get_or ns at Vacant ≡ inner k size

pub branch_at : {ns : List Node} {k : Kind} {at size : ℕ} → ∥ Lays ns ∥₁ → at < length ns → get_or ns at Vacant ≡ inner k size → Branch ns k at size
branch_at l h i = record { lays = l; inside = h; is = i }

module _ {ns : List Node} {k : Kind} {at size : ℕ} (b : Branch ns k at size) where
  module _ (F : Form) (l : ns ≡ laid F) where
    pub inner_at : node (get_or (parts F) at (row 0)) ≡ inner k size
    inner_at = sym (at_node ns F l at Vacant b.inside).1 ∙ b.is

    pub start_at : Start (parts F) k at size
    start_at = start (parts F) k at size (nested F) (at_node ns F l at Vacant b.inside).0 inner_at

    pub begin_at : at + 1 < length ns → (P : Formula → Type 0) → P (get_or (parts F) (at + 1) (row 0)) → Progress (parts F) k at (at + size) (at + 1 + size_of (get_or ns (at + 1) Vacant)) P
    begin_at h P p = subst (λ m. Progress (parts F) k at (at + size) (at + 1 + m) P) (sym (sized ns F l (at + 1) Vacant h)) (started (parts F) k at size P start_at p)

    pub onward_at : (c : ℕ) (P Q : Formula → Type 0) → Progress (parts F) k at (at + size) c P → c < at + size → c < length ns
        → ((f : Formula) → P f → Q (under k f (get_or (parts F) c (row 0)))) → Progress (parts F) k at (at + size) (c + size_of (get_or ns c Vacant)) Q
    onward_at c P Q p a h more = subst (λ m. Progress (parts F) k at (at + size) (c + m) Q) (sym (sized ns F l c Vacant h)) (step (parts F) k at (at + size) c P Q p a more)

  -- it has a first child
  pub roomed : (at + size ≤ length ns) × (at + 1 < at + size)
  roomed = ∥∥₁_elim b.lays (×_prop le_prop le_prop) (λ (F, l).
      let s = start_at F l in
      let m = count ns F l in
      (omega (arith, s.room), s.child))
