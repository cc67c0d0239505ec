-- What stands in a field, and the value that it says: the same bytes, unless both have a quote.
use Rattle.std.proofs.Common.{◌≡◌, ℕ, ◌-◌, ◌<◌, Bool, true, false, ◌||◌, eqb, ◌⊎◌, List, [], ◌∷◌, length, get_or, Some, None, Option, sym, refl, ap, ◌∙◌, subst, inl, inr, arith, MatchOption, ◌+◌, ◌≤◌, Decides}
use Rattle.std.specs.Bool.{then_some}
use Rattle.std.specs.Str.Parse.{AllDigits, digits_value}
use Rattle.std.proofs.lemmas.Str.Parse.{digit_from_value}
use Rattle.std.proofs.lemmas.Bool.{false≢true}
use Rattle.table_files.specs.Grammar.{DQUOTE, NonEscaped, Inside}
use Rattle.table_files.specs.Fields.{Content}
use Rattle.table_files.specs.Places.{Number, Width}
use Rattle.table_files.specs.Tables.{Numeral, sure}

-- a quote stands in the list
pub data QuoteIn : List ℕ → Type 0 where
  here : {s : List ℕ} → QuoteIn (DQUOTE ∷ s)
  later : {b : ℕ} {s : List ℕ} → QuoteIn s → QuoteIn (b ∷ s)

same_content : {raw v : List ℕ} → Content raw v → (raw ≡ v) ⊎ (QuoteIn raw × QuoteIn v)
same_content (inl NonEscaped.none) = inl refl
same_content (inl (NonEscaped.more {b} x n)) =
    elim (same_content (inl n)) [ inl e ↦ inl (ap (λ l. b ∷ l) e) | inr q ↦ inr (later q.0, later q.1) ]
same_content (inr Inside.none) = inl refl
same_content (inr (Inside.one {b} x n)) =
    elim (same_content (inr n)) [ inl e ↦ inl (ap (λ l. b ∷ l) e) | inr q ↦ inr (later q.0, later q.1) ]
same_content (inr (Inside.two n)) = inr (here, here)

no_quote : {ds : List ℕ} → QuoteIn ds → AllDigits 10 ds → ⊥
no_quote here d = let k = digit_from_value DQUOTE d.0 in omega arith
no_quote (later q) d = no_quote q d.1

not_nil : {s : List ℕ} → QuoteIn s → s ≡ [] → ⊥
not_nil here e = let z : ◌≡◌ {A = ℕ} 0 1 = cc in omega arith
not_nil (later q) e = let z : ◌≡◌ {A = ℕ} 0 1 = cc in omega arith

-- the field's rule, with the number, by its content

abbrev Kept : Bool → List ℕ → Type 0
Kept last v = Numeral v ⊎ ((v ≡ []) × (last ≡ false))

module _ (last : Bool) (raw v : List ℕ) (h : Content raw v) where
  kept_content : Kept last v → Kept last raw
  kept_content k =
      elim (same_content h) [
        | inl e ↦ subst (Kept last) (sym e) k
        | inr q ↦ elim k [ inl n ↦ absurd (no_quote q.1 n.2) | inr n ↦ absurd (not_nil q.1 n.0) ]
      ]

  number_some : (n : ℕ) → Numeral raw → n ≡ digits_value 10 raw → Number last v (Some n)
  number_some n k e =
      elim (same_content h) [
        | inl s ↦ (inl (subst Numeral s k), e ∙ ap (digits_value 10) s)
        | inr q ↦ absurd (no_quote q.0 k.2)
      ]

  pub number_of : (o : Option ℕ) → 0 < length raw → MatchOption o (Numeral raw → ⊥) (λ n. Numeral raw × (n ≡ digits_value 10 raw)) → Number last v o
  number_of None l n = λ k. elim (kept_content k) [ inl m ↦ n m | inr m ↦ omega (arith, ap length m.0) ]
  number_of (Some n) l k = number_some n k.0 k.1

-- the quotes around a field

-- the name of a header's last field

or_right : (a : Bool) {b : Bool} → b ≡ true → (a || b) ≡ true
or_right true e = refl
or_right false e = e

abbrev quotes : List ℕ → Bool
quotes [] = false
quotes (b ∷ s) = eqb b DQUOTE || quotes s

quote_in : {s : List ℕ} → QuoteIn s → quotes s ≡ true
quote_in here = refl
quote_in (later {b} q) = or_right (eqb b DQUOTE) (quote_in q)

no_quote_sure : {s : List ℕ} → QuoteIn s → s ≡ sure → ⊥
no_quote_sure q e = false≢true (sym (ap quotes e) ∙ quote_in q)

pub sure_content : {raw v : List ℕ} → Content raw v → raw ≡ sure → v ≡ sure
sure_content h e = elim (same_content h) [ inl s ↦ sym s ∙ e | inr q ↦ absurd (no_quote_sure q.0 e) ]

pub sure_value : {raw v : List ℕ} → Content raw v → v ≡ sure → raw ≡ sure
sure_value h e = elim (same_content h) [ inl s ↦ s ∙ e | inr q ↦ absurd (no_quote_sure q.1 e) ]

pub sure_width : (names : List (List ℕ)) (w : ℕ) (raw : List ℕ) → w + 1 ≡ length names → 2 ≤ length names → length names ≤ 5 → Content raw (get_or names w []) →
    (b : Bool) → Decides b (raw ≡ sure) → Width names (then_some b w)
sure_width names w raw n lo hi t true d =
    let e : length names - 1 ≡ w = omega arith in
    ((lo, hi, ap (λ k. get_or names k []) e ∙ sure_content t (d.0 refl)), n)
sure_width names w raw n lo hi t false d = λ l.
    let e : length names - 1 ≡ w = omega arith in
    false≢true (d.1 (sure_value t (sym (ap (λ k. get_or names k []) e) ∙ l.2)))
