-- A set without a chain of four has at most one member, or a cut in the graph or in its complement. Assumes nothing.
use Rattle.std.proofs.Common.{◌≡◌, ℕ, ◌<◌, Bool, true, false, not, ◌||◌, eqb, ◌≢◌, ◌⊎◌, List, [], ◌∷◌, sym, refl, ◌∙◌, subst, inl, inr, true≢false}
use mathlib.Core.Bool.{Bool-discrete}
use mathlib.Core.Logic.Dec
use native.Mathlib.Decide.{ℕ_discrete}
use Rattle.std.proofs.lemmas.Bool.{false_from_ne_true, both_ways, not-true, not-false, not_from_true, not_from_false, eqb-true, eqb-false, eq-eqb, ne_eqb, cases_Bool, or_cases, or_parts, or_from, or_left}
use Rattle.graph.specs.Graphs.{IsGraph, Chain}
use Rattle.graph.proofs.Finite.{◌∈◌, seek}

-- no four of the list form a chain
abbrev pub Chainless : (ℕ → ℕ → Bool) → List ℕ → Type 0
Chainless joined members =
    (a b c d : ℕ) → a ∈ members → b ∈ members → c ∈ members → d ∈ members → ¬ Chain joined a b c d

-- at most one, whatever its repeats
abbrev pub One : List ℕ → Type 0
One members = (x y : ℕ) → x ∈ members → y ∈ members → x ≡ y

-- two sides of a set, a member on each, and nothing joined across
pub record Cut (joined : ℕ → ℕ → Bool) (members : List ℕ) : Type 0 where
  pub side : ℕ → Bool
  pub left : ℕ
  pub right : ℕ
  pub left_in : left ∈ members
  pub right_in : right ∈ members
  pub left_side : side left ≡ true
  pub right_side : side right ≡ false
  pub across : (x y : ℕ) → x ∈ members → y ∈ members → side x ≡ true → side y ≡ false → joined x y ≡ false

-- the same cut with its sides exchanged
flip : {size : ℕ} {joined : ℕ → ℕ → Bool} {members : List ℕ} → IsGraph size joined → Cut joined members → Cut joined members
flip G c = record {
  side = λ x. not (c.side x);
  left = c.right;
  right = c.left;
  left_in = c.right_in;
  right_in = c.left_in;
  left_side = not_from_false _ c.right_side;
  right_side = not_from_true _ c.left_side;
  across = λ x y mx my sx sy. G.symmetric x y ∙ c.across y x my mx (not-false _ sy) (not-true _ sx);
}

-- the cut that has x on its left
pub toward : {size : ℕ} {joined : ℕ → ℕ → Bool} {members : List ℕ} → IsGraph size joined → Cut joined members → (x : ℕ) →
    (c : Cut joined members) × (c.side x ≡ true)
unfolding flip
toward G c x = elim (cases_Bool (c.side x)) [ inl e ↦ (c, e) | inr e ↦ (flip G c, not_from_false _ e) ]

-- a step does not cross a cut
pub along : {joined : ℕ → ℕ → Bool} {members : List ℕ} (c : Cut joined members) (x y : ℕ) → x ∈ members → y ∈ members →
    c.side x ≡ true → joined x y ≡ true → c.side y ≡ true
along c x y mx my sx j = not-false _ (false_from_ne_true _ (λ e. both_ways _ (c.across x y mx my sx (not-true _ e)) j))

-- a member other than v
other : {joined : ℕ → ℕ → Bool} {members : List ℕ} → Cut joined members → (v : ℕ) → (y : ℕ) × (y ∈ members) × (y ≢ v)
other c v = elim (ℕ_discrete c.left v) [
  | yes e ↦ (c.right, c.right_in, λ e'. both_ways _ c.right_side (subst (λ u. c.side u ≡ true) (e ∙ sym e') c.left_side))
  | no n ↦ (c.left, c.left_in, n)
]

-- a cut of a set and one more member v, which goes to the left
cut_with : (joined : ℕ → ℕ → Bool) (v : ℕ) (rest : List ℕ) (side : ℕ → Bool) (y : ℕ) → y ∈ rest → y ≢ v → side y ≡ false →
    ((z : ℕ) → z ∈ rest → z ≢ v → side z ≡ false → joined v z ≡ false) →
    ((x z : ℕ) → x ∈ rest → z ∈ rest → z ≢ v → side x ≡ true → side z ≡ false → joined x z ≡ false) →
    Cut joined (v ∷ rest)
cut_with joined v rest side y my y≢v sy from_v from_rest = record {
  side = λ u. eqb v u || side u;
  left = v;
  right = y;
  left_in = inl refl;
  right_in = inr my;
  left_side = or_left _ _ (eq-eqb v v refl);
  right_side = or_from _ _ (ne_eqb v y (λ e. y≢v (sym e))) sy;
  across = λ x z mx mz sx sz.
      let t = or_parts _ _ sz in
      go x z mx mz (λ e. eqb-false v z t.0 (sym e)) (or_cases _ _ sx) t.1;
}
  where
    go : (x z : ℕ) → x ∈ (v ∷ rest) → z ∈ (v ∷ rest) → z ≢ v → (eqb v x ≡ true) ⊎ (side x ≡ true) → side z ≡ false → joined x z ≡ false
    go x z mx (inl e) n sx sz = absurd (n e)
    go x z mx (inr mz) n (inl e) sz = rw (← (eqb-true v x e)) (from_v z mz n sz)
    go x z (inl e) (inr mz) n (inr sx) sz = rw e (from_v z mz n sz)
    go x z (inr mx) (inr mz) n (inr sx) sz = from_rest x z mx mz n sx sz

-- two graphs that are each other's complement: of two different members just one of them joins the two
pub record Opposite (size : ℕ) (p q : ℕ → ℕ → Bool) : Type 0 where
  pub graph : IsGraph size p
  pub cograph : IsGraph size q
  pub unjoined : (x y : ℕ) → q x y ≡ true → p x y ≡ false
  pub joined_else : (x y : ℕ) → x < size → y < size → x ≢ y → p x y ≡ false → q x y ≡ true

pub opposite_back : {size : ℕ} {p q : ℕ → ℕ → Bool} → Opposite size p q → Opposite size q p
opposite_back {p = p} {q} O = record {
  graph = O.cograph;
  cograph = O.graph;
  unjoined = λ x y j. false_from_ne_true _ (λ k. both_ways _ (O.unjoined x y k) j);
  joined_else = λ x y lx ly n j. elim (cases_Bool (p x y)) [ inl t ↦ t | inr f ↦ absurd (both_ways _ j (O.joined_else x y lx ly n f)) ];
}

module _ {size : ℕ} {p q : ℕ → ℕ → Bool} (O : Opposite size p q) where
  -- two members that another one tells apart are joined in the graph if they are not in the complement
  told : (x y z : ℕ) → y < size → q x z ≡ true → q y z ≡ false → q x y ≡ false → p x y ≡ true
  told x y z ly xz yz xy = (opposite_back O).joined_else x y (O.cograph.within x z xz) ly (λ e. both_ways _ yz (rw e at xz)) xy

  -- a chain of the complement is a chain of the graph, in another order
  pub chain_turned : {a b c d : ℕ} → Chain q a b c d → Chain p c a d b
  chain_turned {a} {b} {c} {d} h =
      let s = O.cograph.symmetric in
      let la = O.cograph.within a b h.ab in
      let ld = O.cograph.within d c (s d c ∙ h.cd) in
      record {
        ab = told c a d la h.cd h.ad (s c a ∙ h.ac);
        bc = told a d b ld h.ab (s d b ∙ h.bd) h.ad;
        cd = O.graph.symmetric d b ∙ told b d a ld (s b a ∙ h.ab) (s d a ∙ h.ad) h.bd;
        ac = O.unjoined c d h.cd;
        bd = O.unjoined a b h.ab;
        ad = O.unjoined c b (s c b ∙ h.bc);
      }

  module _ (v : ℕ) (rest : List ℕ) where
    -- neither v nor joined to v
    abbrev Far : ℕ → Type 0
    Far y = (y ≢ v) × (p v y ≡ false)

    far? : (y : ℕ) → Dec (Far y)
    far? y = Dec.and (Dec.not (ℕ_discrete y v)) (Bool-discrete (p v y) false)

    -- someone joined to v is joined to someone far
    abbrev Bridge : Type 0
    Bridge = (x : ℕ) × (x ∈ rest) × ((p v x ≡ true) × ((y : ℕ) × (y ∈ rest) × (Far y × (p x y ≡ true))))

    bridge? : Dec Bridge
    bridge? = seek _ (λ x. Dec.and (Bool-discrete (p v x) true) (seek _ (λ y. Dec.and (far? y) (Bool-discrete (p x y) true)) rest)) rest

    -- by a bridge from x to y, v is joined to nothing across the cut: that would end a chain
    with_bridge : Chainless p (v ∷ rest) → (x y : ℕ) → x ∈ rest → y ∈ rest → p v x ≡ true → Far y → p x y ≡ true →
        (c : Cut p rest) → c.side x ≡ true → Cut p (v ∷ rest)
    with_bridge none x y mx my vx far xy c sx = go (seek _ (λ z. Dec.and (Bool-discrete (c.side z) false) (Bool-discrete (p v z) true)) rest)
      where
        s : (a b : ℕ) → p a b ≡ p b a
        s = O.graph.symmetric

        sy : c.side y ≡ true
        sy = along c x y mx my sx xy

        go : Dec ((z : ℕ) × (z ∈ rest) × ((c.side z ≡ false) × (p v z ≡ true))) → Cut p (v ∷ rest)
        go (yes t) =
            absurd (none y x v t.0 (inr my) (inr mx) (inl refl) (inr t.1) (record {
              ab = s y x ∙ xy;
              bc = s x v ∙ vx;
              cd = t.2.1;
              ac = s y v ∙ far.1;
              bd = c.across x t.0 mx t.1 sx t.2.0;
              ad = c.across y t.0 my t.1 sy t.2.0;
            }))
        go (no n) =
            cut_with p v rest c.side c.right c.right_in
            (λ e. both_ways _ (c.across x c.right mx c.right_in sx c.right_side) (rw e (s x v ∙ vx)))
            c.right_side (λ z mz _ sz. false_from_ne_true _ (λ e. n (z, mz, (sz, e)))) (λ a z ma mz _ sa sz. c.across a z ma mz sa sz)

    -- without a bridge the far members are a side; or there are none, and v is alone in the complement
    without_bridge : ¬ Bridge → (y : ℕ) → y ∈ rest → y ≢ v → Cut p (v ∷ rest) ⊎ Cut q (v ∷ rest)
    without_bridge none y my y≢v = go (seek Far far? rest)
      where
        go : Dec ((y : ℕ) × (y ∈ rest) × Far y) → Cut p (v ∷ rest) ⊎ Cut q (v ∷ rest)
        go (yes t) =
            inl (cut_with p v rest (p v) t.0 t.1 t.2.0 t.2.1 (λ z _ _ s. s)
            (λ x z mx mz n sx sz. false_from_ne_true _ (λ e. none (x, mx, (sx, (z, mz, ((n, sz), e)))))))
        go (no near) =
            inr (cut_with q v rest (λ _. false) y my y≢v refl
            (λ z mz n _. false_from_ne_true _ (λ e. near (z, mz, (n, O.unjoined v z e)))) (λ x z _ _ _ e _. absurd (true≢false (sym e))))

    -- a cut of all but v in a set without a chain gives a cut of the set
    extend : Chainless p (v ∷ rest) → Cut p rest → Cut p (v ∷ rest) ⊎ Cut q (v ∷ rest)
    extend none c = elim bridge? [
      | yes t ↦ (let w = toward O.graph c t.0 in
          inl (with_bridge none t.0 t.2.1.0 t.1 t.2.1.1 t.2.0 t.2.1.2.0 t.2.1.2.1 w.0 w.1))
      | no n ↦ (let y = other c v in without_bridge n y.0 y.1 y.2)
    ]

    -- one member besides v, whatever its repeats: no bridge, since the two ends of a bridge differ
    two : One rest → (y : ℕ) → y ∈ rest → y ≢ v → Cut p (v ∷ rest) ⊎ Cut q (v ∷ rest)
    two one = without_bridge (λ t. both_ways _ t.2.1.2.0.1 (rw (one t.2.1.0 t.0 t.2.1.1 t.1) t.2.0))

-- a set without a chain has at most one member, or a cut in the graph or in the complement
pub one_or_cut : {size : ℕ} {p q : ℕ → ℕ → Bool} → Opposite size p q → (members : List ℕ) → Chainless p members →
    One members ⊎ (Cut p members ⊎ Cut q members)
one_or_cut O [] none = inl (λ x y m _. absurd m)
one_or_cut {p = p} {q} O (v ∷ rest) none = go (one_or_cut O rest (λ a b c d ma mb mc md. none a b c d (inr ma) (inr mb) (inr mc) (inr md)))
  where
    Whole : Type 0
    Whole = One (v ∷ rest) ⊎ (Cut p (v ∷ rest) ⊎ Cut q (v ∷ rest))

    back : Cut q (v ∷ rest) ⊎ Cut p (v ∷ rest) → Whole
    back (inl c) = inr (inr c)
    back (inr c) = inr (inl c)

    same : ¬ ((y : ℕ) × (y ∈ rest) × (y ≢ v)) → (x : ℕ) → x ∈ (v ∷ rest) → x ≡ v
    same n x (inl e) = e
    same n x (inr m) = elim (ℕ_discrete x v) [ yes e ↦ e | no k ↦ absurd (n (x, m, k)) ]

    go : One rest ⊎ (Cut p rest ⊎ Cut q rest) → Whole
    go (inl one) = elim (seek _ (λ y. Dec.not (ℕ_discrete y v)) rest) [
      | yes t ↦ inr (two O v rest one t.0 t.1 t.2)
      | no n ↦ inl (λ x y mx my. same n x mx ∙ sym (same n y my))
    ]
    go (inr (inl c)) = inr (extend O v rest none c)
    go (inr (inr c)) = back (extend (opposite_back O) v rest (λ a b c d ma mb mc md h. none c a d b mc ma md mb (chain_turned O h)) c)
