-- What `map_err` and `ok_or` say of the value before them.
use Rattle.std.proofs.Common.{◌≡◌, ℕ, Some, None, Ok, Err, Option, Result, sym, refl, ap, ◌∙◌, arith}
use Rattle.std.specs.Option.{ok_or}
use Rattle.std.specs.Result.{MatchResult, IsErrAnd}
use Rattle.std.proofs.lemmas.Result.{err_from_is_err_and}

ok_not_err : {T E : Type 0} {x : T} {e : E} → ◌≡◌ {A = Result T E} (Ok x) (Err e) → ⊥
ok_not_err k = let z : ◌≡◌ {A = ℕ} 0 1 = cc in omega arith

module _ {T E D : Type 0} (name : E → D) where
  pub map_failed : (o : Result T E) (m : Result T D) → MatchResult o (λ x. m ≡ Ok x) (λ e. IsErrAnd m (λ d. d ≡ name e)) → (f : D) → m ≡ Err f →
      (e : E) × (o ≡ Err e) × (f ≡ name e)
  map_failed (Ok x) m h f k = absurd (ok_not_err (sym h ∙ k))
  map_failed (Err e) m h f k = let w = err_from_is_err_and m h in let z : Err f ≡ Err w.0 = sym k ∙ w.1 in let y : f ≡ w.0 = cc in (e, refl, y ∙ w.2)

  pub map_went : (o : Result T E) (m : Result T D) → MatchResult o (λ x. m ≡ Ok x) (λ e. IsErrAnd m (λ d. d ≡ name e)) → (x : T) → m ≡ Ok x → o ≡ Ok x
  map_went (Ok y) m h x k = let z : Ok y ≡ Ok x = sym h ∙ k in let e : y ≡ x = cc in ap Ok e
  map_went (Err e) m h x k = let w = err_from_is_err_and m h in absurd (ok_not_err (sym k ∙ w.1))

pub ok_or_failed : {T E : Type 0} (o : Option T) (e : E) (r : Result T E) → r ≡ ok_or o e → (f : E) → r ≡ Err f → (o ≡ None) × (f ≡ e)
ok_or_failed None e r h f k = let z : Err f ≡ Err e = sym k ∙ h in (refl, cc)
ok_or_failed (Some x) e r h f k = absurd (ok_not_err (sym h ∙ k))
