-- Searches that try one number after the other. Assumes nothing.
use Rattle.std.proofs.Common.{◌≡◌, ℕ, Bool, true, false, not, ◌&&◌, eqb, ◌∙◌, subst, inl, inr, arith}
use Rattle.std.proofs.lemmas.Bool.{both_ways, cases_eq}
use Rattle.std.proofs.lemmas.Bool.Decides.{nat_tests}
use Rattle.graph.specs.Graphs.{IsGraph, ChainIn}

-- what is left to try fits, and has whatever leads to an answer
pub record Untried (Fits Hope : ℕ → Type 0) (left : ℕ → Bool) : Type 0 where
  pub fits : (x : ℕ) → left x ≡ true → Fits x
  pub hope : (x : ℕ) → Hope x → left x ≡ true

-- x was tried, in vain
pub untried_more : {Fits Hope : ℕ → Type 0} {left : ℕ → Bool} (left' : ℕ → Bool) (x : ℕ) → ((k : ℕ) → left' k ≡ (left k && not (eqb k x))) →
    (Hope x → ⊥) → Untried Fits Hope left → Untried Fits Hope left'
untried_more {Hope = Hope} left' x is vain U = record {
  fits = λ k m. U.fits k (grind (arith, is));
  hope = λ k h.
      let old = U.hope k h in
      elim (cases_eq k x) [ inl same ↦ absurd (vain (subst Hope same h)) | inr other ↦ grind (arith, nat_tests, is) ];
}

-- nothing is left: there is no answer
pub untried_none : {Fits Hope : ℕ → Type 0} {left : ℕ → Bool} → ((k : ℕ) → left k ≡ false) → Untried Fits Hope left → (x : ℕ) → Hope x → ⊥
untried_none none U x h = both_ways _ (none x) (U.hope x h)

-- the first of a chain around b and c
pub record First (joined : ℕ → ℕ → Bool) (set : ℕ → Bool) (b c a : ℕ) : Type 0 where
  pub has : set a ≡ true
  pub to_b : joined b a ≡ true
  pub not_to_c : joined c a ≡ false

-- what stands at one end of a joined pair: joined to the one, and not to the other
pub end_fits : {joined : ℕ → ℕ → Bool} {set near far only end : ℕ → Bool} {b c : ℕ} → ((k : ℕ) → near k ≡ joined b k) → ((k : ℕ) → far k ≡ joined c k) →
    ((k : ℕ) → only k ≡ (near k && not (far k))) → ((k : ℕ) → end k ≡ (only k && set k)) → (k : ℕ) → end k ≡ true → First joined set b c k
end_fits is_near is_far is_only is_end k m = record {
  has = grind (arith, is_end);
  to_b = grind (arith, is_near, is_only, is_end);
  not_to_c = grind (arith, is_far, is_only, is_end);
}

pub end_has : {joined : ℕ → ℕ → Bool} {set near far only end : ℕ → Bool} {b c : ℕ} → ((k : ℕ) → near k ≡ joined b k) → ((k : ℕ) → far k ≡ joined c k) →
    ((k : ℕ) → only k ≡ (near k && not (far k))) → ((k : ℕ) → end k ≡ (only k && set k)) → (k : ℕ) → First joined set b c k → end k ≡ true
end_has is_near is_far is_only is_end k f = grind (arith, is_near, is_far, is_only, is_end)

module _ {size : ℕ} {joined : ℕ → ℕ → Bool} (G : IsGraph size joined) {set : ℕ → Bool} {a b c d : ℕ} where
  pub chain_made : set b ≡ true → set c ≡ true → joined b c ≡ true → First joined set b c a → First joined set c b d → joined a d ≡ false →
      ChainIn joined set a b c d
  chain_made mb mc bc f l ad = record {
    has_a = f.has;
    has_b = mb;
    has_c = mc;
    has_d = l.has;
    chain = record {
      ab = G.symmetric a b ∙ f.to_b;
      bc = bc;
      cd = l.to_b;
      ac = G.symmetric a c ∙ f.not_to_c;
      bd = l.not_to_c;
      ad = ad;
    };
  }

  pub chain_first : ChainIn joined set a b c d → First joined set b c a
  chain_first h = record { has = h.has_a; to_b = G.symmetric b a ∙ h.chain.ab; not_to_c = G.symmetric c a ∙ h.chain.ac }

  pub chain_last : ChainIn joined set a b c d → First joined set c b d
  chain_last h = record { has = h.has_d; to_b = h.chain.cd; not_to_c = h.chain.bd }

  pub chain_reversed : ChainIn joined set a b c d → ChainIn joined set d c b a
  chain_reversed h = record {
    has_a = h.has_d;
    has_b = h.has_c;
    has_c = h.has_b;
    has_d = h.has_a;
    chain = record {
      ab = G.symmetric d c ∙ h.chain.cd;
      bc = G.symmetric c b ∙ h.chain.bc;
      cd = G.symmetric b a ∙ h.chain.ab;
      ac = G.symmetric d b ∙ h.chain.bd;
      bd = G.symmetric c a ∙ h.chain.ac;
      ad = G.symmetric d a ∙ h.chain.ad;
    };
  }
