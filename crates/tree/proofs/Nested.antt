-- Where the nodes of a formula stand in its layout.
use Rattle.std.proofs.Common.{◌≡◌, ℕ, zero, suc, ◌+◌, ◌-◌, ◌<◌, ◌≤◌, ◌⊎◌, List, [], ◌∷◌, ◌++◌, length, get_or, drop, Some, None, Option, sym, refl, ap, ◌∙◌, subst, inl, inr, append_assoc, append-nil, add-zero, arith, length-append, length-drop, get_or-drop, drop-drop, get_or-append-add}
use native.Mathlib.Decide.{dec_lt}
use lib.Seq.{drop-append-le, drop-append-add, drop-append_seam}
use Rattle.std.proofs.lemmas.List.{get_or_append_left, get_or-map, length-map}
use Rattle.tree.specs.Formulas.{Formula, row, under, Form, never, form}
use Rattle.tree.specs.declared.Kind.{Kind}
use Rattle.tree.specs.declared.Kind.TheVariants.{And, Or}
use Rattle.tree.specs.declared.Node.{Node}
use Rattle.tree.specs.declared.Node.TheVariants.{Vacant, Row, And as and_node, Or as or_node}
use Rattle.tree.specs.Nodes.{size_of, inner, inner_of}
use Rattle.tree.specs.Layout.{Stand, alone, among, spread, spans, node, parts, laid, Lays}
use Rattle.tree.proofs.Spreads.{with_own, leads, spans_under}

-- what stands at a place of the list is followed by all below it
abbrev pub Nested : List Formula → Type 0
Nested fs = (i : ℕ) → i < length fs → (rest : List Formula) × (drop i fs ≡ spans (get_or fs i (row 0)) ++ rest)

nested_none : Nested []
nested_none i h = absurd (let z : ⊥ = omega arith in z)

nested_cons : (f : Formula) (fs : List Formula) → spans f ≡ f ∷ fs → Nested fs → Nested (f ∷ fs)
nested_cons f fs e n zero h = ([], sym e ∙ sym (append-nil (spans f)))
nested_cons f fs e n (suc i) h = n i (omega arith)

nested_append : (fs gs : List Formula) → Nested fs → Nested gs → Nested (fs ++ gs)
nested_append fs gs n m i h = go (dec_lt i (length fs))
  where
    moved : (j : ℕ) (rest : List Formula) → length fs + j ≡ i → drop j gs ≡ spans (get_or gs j (row 0)) ++ rest → drop i (fs ++ gs) ≡ spans (get_or (fs ++ gs) i (row 0)) ++ rest
    moved j rest e d = rw (← e, drop-append-add fs gs j, get_or-append-add fs gs j (row 0)) d

    later : (j : ℕ) → length fs + j ≡ i → (rest : List Formula) × (drop i (fs ++ gs) ≡ spans (get_or (fs ++ gs) i (row 0)) ++ rest)
    later j e = let k : j < length gs = omega (arith, length-append fs gs) in let (rest, d) = m j k in (rest, moved j rest e d)

    go : Dec (i < length fs) → (rest : List Formula) × (drop i (fs ++ gs) ≡ spans (get_or (fs ++ gs) i (row 0)) ++ rest)
    go (yes k) =
        let (rest, d) = n i k in
        (rest ++ gs, rw (drop-append-le i fs gs (omega arith), get_or_append_left fs gs (row 0) i k, d) (append_assoc (spans (get_or fs i (row 0))) rest gs))
    go (no k) = later (i - length fs) (omega arith)

nested_spread : (s : Stand) (f : Formula) → Nested (spread s f)
nested_spread s (row r) = nested_cons (row r) [] refl nested_none
nested_spread s (under k f g) =
    let n = nested_append _ _ (nested_spread (among k) f) (nested_spread alone g) in
    with_own Nested s k (under k f g) _ n (nested_cons (under k f g) _ refl n)

pub nested : (F : Form) → Nested (parts F)
nested never = nested_none
nested (form f) = nested_spread alone f

-- what is known where the rest of a list begins with a formula's own
pub record Begins (fs : List Formula) (c : ℕ) (f : Formula) (rest : List Formula) : Type 0 where
  pub inside : c < length fs
  pub here : get_or fs c (row 0) ≡ f
  pub some : 0 < length (spans f)
  pub room : c + length (spans f) ≤ length fs
  pub after : drop (c + length (spans f)) fs ≡ rest

pub begins : (fs : List Formula) (c : ℕ) (f : Formula) (rest : List Formula) → drop c fs ≡ spans f ++ rest → Begins fs c f rest
begins fs c f rest e =
    let (ts, l) = leads f in
    let n : length (spans f) ≡ suc (length ts) = ap length l in
    let s : length fs - c ≡ length (spans f) + length rest = sym (length-drop c fs) ∙ ap length e ∙ length-append (spans f) rest in
    record {
      inside = omega arith;
      here = ap (λ i. get_or fs i (row 0)) (sym (add-zero c)) ∙ sym (get_or-drop c fs 0 (row 0)) ∙ ap (λ xs. get_or xs 0 (row 0)) (e ∙ ap (λ xs. xs ++ rest) l);
      some = omega arith;
      room = omega arith;
      after = sym (drop-drop (length (spans f)) c fs) ∙ ap (drop (length (spans f))) e ∙ drop-append_seam (spans f) rest;
    }

-- the node of a formula says what the formula is

pub size_inner : (k : Kind) (n : ℕ) → size_of (inner k n) ≡ n
size_inner And n = refl
size_inner Or n = refl

pub size_node : (f : Formula) → size_of (node f) ≡ length (spans f)
size_node (row r) = refl
size_node (under k f g) = size_inner k (length (spans (under k f g)))

pub inner_same : (j k : Kind) (m n : ℕ) → inner j m ≡ inner k n → (j ≡ k) × (m ≡ n)
inner_same And And m n e = (refl, ap size_of e)
inner_same And Or m n e = absurd (let z : ◌≡◌ {A = ℕ} 0 1 = cc in let y : ⊥ = omega arith in y)
inner_same Or And m n e = absurd (let z : ◌≡◌ {A = ℕ} 0 1 = cc in let y : ⊥ = omega arith in y)
inner_same Or Or m n e = (refl, ap size_of e)

pub inner_not_row : (k : Kind) (n r : ℕ) → inner k n ≡ Row r → ⊥
inner_not_row And n r e = let z : ◌≡◌ {A = ℕ} 0 1 = cc in omega arith
inner_not_row Or n r e = let z : ◌≡◌ {A = ℕ} 0 1 = cc in omega arith

inner_not_vacant : (k : Kind) (n : ℕ) → inner k n ≡ Vacant → ⊥
inner_not_vacant And n e = let z : ◌≡◌ {A = ℕ} 0 1 = cc in omega arith
inner_not_vacant Or n e = let z : ◌≡◌ {A = ℕ} 0 1 = cc in omega arith

pub row_node : (f : Formula) (r : ℕ) → node f ≡ Row r → f ≡ row r
row_node (row q) r e = cc
row_node (under k f g) r e = absurd (inner_not_row k _ r e)

pub not_vacant : (f : Formula) → node f ≡ Vacant → ⊥
not_vacant (row q) e = let z : ◌≡◌ {A = ℕ} 0 1 = cc in omega arith
not_vacant (under k f g) e = inner_not_vacant k _ e

abbrev rebuilt : Option (Kind × ℕ) → Node
rebuilt None = Vacant
rebuilt (Some p) = inner p.0 p.1

pub inner_some : (n : Node) (k : Kind) (m : ℕ) → Some (k, m) ≡ inner_of n → n ≡ inner k m
inner_some Vacant k m e = absurd (let z : ◌≡◌ {A = ℕ} 0 1 = cc in let y : ⊥ = omega arith in y)
inner_some (Row r) k m e = absurd (let z : ◌≡◌ {A = ℕ} 0 1 = cc in let y : ⊥ = omega arith in y)
inner_some (and_node n) k m e = sym (ap rebuilt e)
inner_some (or_node n) k m e = sym (ap rebuilt e)

pub inner_none : (n : Node) → None ≡ inner_of n → ((r : ℕ) × (n ≡ Row r)) ⊎ (n ≡ Vacant)
inner_none Vacant e = inr refl
inner_none (Row r) e = inl (r, refl)
inner_none (and_node n) e = absurd (let z : ◌≡◌ {A = ℕ} 0 1 = cc in let y : ⊥ = omega arith in y)
inner_none (or_node n) e = absurd (let z : ◌≡◌ {A = ℕ} 0 1 = cc in let y : ⊥ = omega arith in y)

-- an and's or an or's own formulas: itself, and its children's
pub inner_node : (k : Kind) (f : Formula) (n : ℕ) → node f ≡ inner k n → (spans f ≡ f ∷ spread (among k) f) × (length (spans f) ≡ n)
inner_node k (row r) n e = absurd (inner_not_row k n r (sym e))
inner_node k (under j f g) n e =
    let (i, m) = inner_same j k _ n e in
    (subst (λ h. spans (under j f g) ≡ under j f g ∷ spread (among h) (under j f g)) i (spans_under j f g), m)

-- the same, read off the nodes

pub at_node : (ns : List Node) (F : Form) → ns ≡ laid F → (c : ℕ) (d : Node) → c < length ns → (c < length (parts F)) × (get_or ns c d ≡ node (get_or (parts F) c (row 0)))
at_node ns F e c d h =
    let k : c < length (parts F) = subst (λ n. c < n) (ap length e ∙ length-map (parts F) node) h in
    (k, ap (λ xs. get_or xs c d) e ∙ get_or-map node (parts F) c (row 0) d k)

pub none_vacant : (ns : List Node) → Lays ns → (at : ℕ) → at < length ns → get_or ns at Vacant ≡ Vacant → ⊥
none_vacant ns (F, l) at h e = not_vacant (get_or (parts F) at (row 0)) (sym (at_node ns F l at Vacant h).1 ∙ e)

pub count : (ns : List Node) (F : Form) → ns ≡ laid F → length ns ≡ length (parts F)
count ns F e = ap length e ∙ length-map (parts F) node

pub sized : (ns : List Node) (F : Form) → ns ≡ laid F → (c : ℕ) (d : Node) → c < length ns → size_of (get_or ns c d) ≡ length (spans (get_or (parts F) c (row 0)))
sized ns F e c d h = ap size_of (at_node ns F e c d h).1 ∙ size_node (get_or (parts F) c (row 0))

-- a form with nodes begins with its formula
pub first_part : (ns : List Node) (P : Form → Formula → Type 0) → ((f : Formula) → P (form f) f) → (F : Form) → ns ≡ laid F → 0 < length ns → P F (get_or (parts F) 0 (row 0))
first_part ns P p never l h = absurd (let z : ⊥ = omega (arith, ap length l) in z)
first_part ns P p (form f) l h = subst (P (form f)) (sym (ap (λ fs. get_or fs 0 (row 0)) (leads f).1)) (p f)

-- and one without is never
pub no_part : (ns : List Node) (P : Form → Type 0) → P never → (F : Form) → ns ≡ laid F → length ns ≡ 0 → P F
no_part ns P p never l h = p
no_part ns P p (form f) l h = absurd (let z : ⊥ = omega (arith, count ns (form f) l, ap length (leads f).1) in z)
