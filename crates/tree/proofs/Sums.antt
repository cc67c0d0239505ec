-- One pass over a formula gives its sums over worlds, and a sum does not depend on the order of the rows.
use Rattle.std.proofs.Common.{◌≡◌, ℕ, Bool, true, false, cond, not, ◌&&◌, ◌||◌, eqb, ◌≢◌, List, [], ◌∷◌, ◌++◌, sym, refl, ap, ◌∙◌, subst, ap₂}
use mathlib.Core.Path.{fun_ext}
use mathlib.Core.List.{Permᴰ}
use Rattle.std.proofs.lemmas.Bool.{ne_eqb, eq-eqb, or_right}
use Rattle.tree.specs.Formulas.{World, Formula, row, under, holds, rows, has, Distinct}
use Rattle.tree.specs.declared.Kind.TheVariants.{And, Or}
use Rattle.scale.specs.Semirings.{Semiring}
use Rattle.tree.specs.Worlds.{none, adding, sum_over_worlds, Weights, world_weight, total}
use Rattle.tree.specs.Passes.{folded, pair_under}
use Rattle.tree.proofs.Membership.{◌∈◌, Names, Apart, in_first, distinct_parts, agrees}

not_or : (a b : Bool) → not (a || b) ≡ (not a && not b)
not_or true b = refl
not_or false b = refl

pub or_swap : (a b c : Bool) → (a || (b || c)) ≡ (b || (a || c))
or_swap true true c = refl
or_swap true false c = refl
or_swap false true c = refl
or_swap false false c = refl

adding_swap : (r s : ℕ) (w : World) → adding r (adding s w) ≡ adding s (adding r w)
adding_swap r s w = fun_ext (λ t. or_swap (eqb t r) (eqb t s) (w t))

adding_else : (r s : ℕ) (w : World) → s ≢ r → adding r w s ≡ w s
adding_else r s w n = rw (ne_eqb s r n)

-- what is read of a world is the same with any of the rows put in
abbrev Ignores : {A : Type 0} → List ℕ → (World → A) → Type 0
Ignores rs v = (r : ℕ) → r ∈ has rs → (w : World) → v (adding r w) ≡ v w

module _ {V : Type 0} (R : Semiring V) where
  open R use {nought, unit, plus, times, plus_assoc, plus_comm, plus_nought, times_assoc, times_comm, times_unit, times_nought, times_plus}

  plus_swap : (a b c : V) → plus a (plus b c) ≡ plus b (plus a c)
  plus_swap a b c = sym (plus_assoc a b c) ∙ ap (λ z. plus z c) (plus_comm a b) ∙ plus_assoc b a c

  times_swap : (a b c : V) → times a (times b c) ≡ times b (times a c)
  times_swap a b c = sym (times_assoc a b c) ∙ ap (λ z. times z c) (times_comm a b) ∙ times_assoc b a c

  plus_four : (a b c d : V) → plus (plus a b) (plus c d) ≡ plus (plus a c) (plus b d)
  plus_four a b c d = plus_assoc a b (plus c d) ∙ ap (plus a) (plus_swap b c d) ∙ sym (plus_assoc a c (plus b d))

  nought_plus : (a : V) → plus nought a ≡ a
  nought_plus a = plus_comm nought a ∙ plus_nought a

  nought_times : (a : V) → times nought a ≡ nought
  nought_times a = times_comm nought a ∙ times_nought a

  plus_times : (a b c : V) → times (plus a b) c ≡ plus (times a c) (times b c)
  plus_times a b c = times_comm (plus a b) c ∙ times_plus c a b ∙ ap₂ plus (times_comm c a) (times_comm c b)

  sum_same : (rs : List ℕ) (u v : World → V) → ((w : World) → u w ≡ v w) → sum_over_worlds R rs u ≡ sum_over_worlds R rs v
  sum_same rs u v h = ap (sum_over_worlds R rs) (fun_ext h)

  sum_plus : (rs : List ℕ) (u v : World → V) → sum_over_worlds R rs (λ w. plus (u w) (v w)) ≡ plus (sum_over_worlds R rs u) (sum_over_worlds R rs v)
  sum_plus [] u v = refl
  sum_plus (r ∷ rs) u v = ap₂ plus (sum_plus rs (λ w. u (adding r w)) (λ w. v (adding r w))) (sum_plus rs u v) ∙ plus_four _ _ _ _

  -- a factor that ignores the rows goes out of the sum
  sum_factor : (rs : List ℕ) (u v : World → V) → Ignores rs u → sum_over_worlds R rs (λ w. times (u w) (v w)) ≡ times (u none) (sum_over_worlds R rs v)
  sum_factor [] u v i = refl
  sum_factor (r ∷ rs) u v i =
      ap₂ plus (sum_same rs _ _ (λ w. ap (λ z. times z (v (adding r w))) (i r (in_first r rs) w)) ∙ sum_factor rs u (λ w. v (adding r w)) later) (sum_factor rs u v later)
      ∙ sym (times_plus _ _ _)
    where
      later : Ignores rs u
      later s h = i s (or_right (eqb s r) (has rs s) h)

  -- the sum of a product, each factor of which ignores the other's rows
  sum_product : (rs ss : List ℕ) (u v : World → V) → Ignores ss u → Ignores rs v → sum_over_worlds R (rs ++ ss) (λ w. times (u w) (v w)) ≡ times (sum_over_worlds R rs u) (sum_over_worlds R ss v)
  sum_product [] ss u v i j = sum_factor ss u v i
  sum_product (r ∷ rs) ss u v i j =
      ap₂ plus (sum_same (rs ++ ss) _ _ (λ w. ap (times (u (adding r w))) (j r (in_first r rs) w)) ∙ sum_product rs ss (λ w. u (adding r w)) v (λ s h w. ap u (adding_swap r s w) ∙ i s h (adding r w)) later)
      (sum_product rs ss u v i later)
      ∙ sym (plus_times _ _ _)
    where
      later : Ignores rs v
      later s h = j s (or_right (eqb s r) (has rs s) h)

  sum_reorder : {rs ss : List ℕ} → Permᴰ rs ss → (v : World → V) → sum_over_worlds R rs v ≡ sum_over_worlds R ss v
  sum_reorder Permᴰ.nil v = refl
  sum_reorder (Permᴰ.cons {a = a} {b = b} {l₁ = rs} {l₂ = ss} e p) v =
      ap₂ plus (sum_reorder p (λ w. v (adding a w)) ∙ ap (λ r. sum_over_worlds R ss (λ w. v (adding r w))) e) (sum_reorder p v)
  sum_reorder (Permᴰ.swap {a = a} {b = b} {l = rs} d e) v =
      ap₂ plus (ap₂ plus (sum_same rs _ _ (λ w. ap v (adding_swap a b w))) refl) refl ∙ plus_four _ _ _ _ ∙ ap₂ (λ x y. sum_over_worlds R (x ∷ y ∷ rs) v) e d
  sum_reorder (Permᴰ.trans p q) v = sum_reorder p v ∙ sum_reorder q v

  module _ (x : Weights V) where
    weight_reorder : {rs ss : List ℕ} → Permᴰ rs ss → (w : World) → world_weight R x rs w ≡ world_weight R x ss w
    weight_reorder Permᴰ.nil w = refl
    weight_reorder (Permᴰ.cons e p) w = ap₂ times (ap (λ r. cond (w r) (x.ins r) (x.outs r)) e) (weight_reorder p w)
    weight_reorder (Permᴰ.swap {l = rs} d e) w = times_swap _ _ _ ∙ ap₂ (λ a b. world_weight R x (a ∷ b ∷ rs) w) e d
    weight_reorder (Permᴰ.trans p q) w = weight_reorder p w ∙ weight_reorder q w

    weight_same : (rs : List ℕ) (u w : World) → ((r : ℕ) → r ∈ has rs → u r ≡ w r) → world_weight R x rs u ≡ world_weight R x rs w
    weight_same [] u w h = refl
    weight_same (r ∷ rs) u w h = ap₂ times (ap (λ b. cond b (x.ins r) (x.outs r)) (h r (in_first r rs))) (weight_same rs u w (λ s i. h s (or_right (eqb s r) (has rs s) i)))

    weight_append : (rs ss : List ℕ) (w : World) → world_weight R x (rs ++ ss) w ≡ times (world_weight R x rs w) (world_weight R x ss w)
    weight_append [] ss w = sym (times_comm unit _ ∙ times_unit _)
    weight_append (r ∷ rs) ss w = ap (times _) (weight_append rs ss w) ∙ sym (times_assoc _ _ _)

    cond_both : (p q : Bool) (a b : V) → cond (p && q) (times a b) nought ≡ times (cond p a nought) (cond q b nought)
    cond_both true true a b = refl
    cond_both true false a b = sym (times_nought a)
    cond_both false q a b = sym (nought_times _)

    -- the total of two tests that read rows of their own
    total_both : (rs ss : List ℕ) (p q : World → Bool) → ((r : ℕ) → r ∈ has rs → r ∈ has ss → ⊥) → Ignores ss p → Ignores rs q
        → total R x (rs ++ ss) (λ w. p w && q w) ≡ times (total R x rs p) (total R x ss q)
    total_both rs ss p q apart i j =
        sum_same (rs ++ ss) _ _ (λ w. ap (λ z. cond (p w && q w) z nought) (weight_append rs ss w) ∙ cond_both (p w) (q w) (world_weight R x rs w) (world_weight R x ss w))
        ∙ sum_product rs ss (λ w. cond (p w) (world_weight R x rs w) nought) (λ w. cond (q w) (world_weight R x ss w) nought)
        (λ r h w. ap₂ (λ b z. cond b z nought) (i r h w) (weight_same rs (adding r w) w (λ s k. adding_else r s w (λ e. apart r (subst (λ t. t ∈ has rs) e k) h))))
        (λ r h w. ap₂ (λ b z. cond b z nought) (j r h w) (weight_same ss (adding r w) w (λ s k. adding_else r s w (λ e. apart r h (subst (λ t. t ∈ has ss) e k)))))

    -- a test in three ways that exclude one another
    total_three : (rs : List ℕ) (t p q s : World → Bool) → ((w : World) (a : V) → cond (t w) a nought ≡ plus (cond (p w) a nought) (plus (cond (q w) a nought) (cond (s w) a nought)))
        → total R x rs t ≡ plus (total R x rs p) (plus (total R x rs q) (total R x rs s))
    total_three rs t p q s h = sum_same rs _ _ (λ w. h w (world_weight R x rs w)) ∙ sum_plus rs _ _ ∙ ap (plus _) (sum_plus rs _ _)

    not_both : (p q : Bool) (a : V) → cond (not (p && q)) a nought ≡ plus (cond (not p && q) a nought) (plus (cond (p && not q) a nought) (cond (not p && not q) a nought))
    not_both true true a = simp plus_nought
    not_both true false a = simp (plus_nought, nought_plus)
    not_both false true a = simp plus_nought
    not_both false false a = simp nought_plus

    either : (p q : Bool) (a : V) → cond (p || q) a nought ≡ plus (cond (p && not q) a nought) (plus (cond (not p && q) a nought) (cond (p && q) a nought))
    either true true a = simp nought_plus
    either true false a = simp plus_nought
    either false true a = simp (plus_nought, nought_plus)
    either false false a = simp plus_nought

    -- the four totals of two formulas that share no row
    module _ (f g : Formula) (apart : Apart f g) where
      f_ignores : Ignores (rows g) (holds f)
      f_ignores r h w = agrees f (adding r w) w (λ s k. adding_else r s w (λ e. apart r (subst (Names f) e k) h))

      g_ignores : Ignores (rows f) (holds g)
      g_ignores r h w = agrees g (adding r w) w (λ s k. adding_else r s w (λ e. apart r h (subst (Names g) e k)))

      -- of f and g in one of the ways that they hold or fail
      four : (b c : Bool → Bool) → total R x (rows f ++ rows g) (λ w. b (holds f w) && c (holds g w)) ≡ times (total R x (rows f) (λ w. b (holds f w))) (total R x (rows g) (λ w. c (holds g w)))
      four b c = total_both (rows f) (rows g) (λ w. b (holds f w)) (λ w. c (holds g w)) apart (λ r h w. ap b (f_ignores r h w)) (λ r h w. ap c (g_ignores r h w))

abbrev id : Bool → Bool
id b = b

-- one pass over the formula, by sums and products alone: what it holds with, and what it fails with
abbrev pub scores : {V : Type 0} → Semiring V → Weights V → Formula → V × V
scores R x = folded (λ r. (x.ins r, x.outs r)) (pair_under R)

-- of a formula that names each row once, the pass gives the totals over all worlds
abbrev pub Scored : Type 0 → Type 0
Scored V = (R : Semiring V) (x : Weights V) (f : Formula) → Distinct (rows f)
    → (total R x (rows f) (holds f) ≡ (scores R x f).0) × (total R x (rows f) (λ w. not (holds f w)) ≡ (scores R x f).1)

pub scored : (V : Type 0) → Scored V
scored V R x (row r) once = (rw (eq-eqb r r refl) (R.plus_nought _ ∙ R.times_unit _), rw (eq-eqb r r refl) (nought_plus R _ ∙ R.times_unit _))
scored V R x (under And f g) once =
    let (df, dg, apart) = distinct_parts (rows f) (rows g) once in
    let (h, n) = scored V R x f df in
    let (i, m) = scored V R x g dg in (
      four R x f g apart id id ∙ ap₂ R.times h i,
      total_three R x (rows f ++ rows g) _ _ _ _ (λ w. not_both R x (holds f w) (holds g w))
          ∙ ap₂ R.plus (four R x f g apart not id ∙ ap₂ R.times n i) (ap₂ R.plus (four R x f g apart id not ∙ ap₂ R.times h m) (four R x f g apart not not ∙ ap₂ R.times n m)),
    )
scored V R x (under Or f g) once =
    let (df, dg, apart) = distinct_parts (rows f) (rows g) once in
    let (h, n) = scored V R x f df in
    let (i, m) = scored V R x g dg in (
      total_three R x (rows f ++ rows g) _ _ _ _ (λ w. either R x (holds f w) (holds g w))
          ∙ ap₂ R.plus (four R x f g apart id not ∙ ap₂ R.times h m) (ap₂ R.plus (four R x f g apart not id ∙ ap₂ R.times n i) (four R x f g apart id id ∙ ap₂ R.times h i)),
      ap (total R x (rows f ++ rows g)) (fun_ext (λ w. not_or (holds f w) (holds g w))) ∙ four R x f g apart not not ∙ ap₂ R.times n m,
    )

-- a total does not depend on the order of the rows
abbrev pub Orderless : Type 0 → Type 0
Orderless V = (R : Semiring V) (x : Weights V) (test : World → Bool) (rs ss : List ℕ) → Permᴰ rs ss → total R x rs test ≡ total R x ss test

pub orderless : (V : Type 0) → Orderless V
orderless V R x test rs ss p = sum_same R rs _ _ (λ w. ap (λ z. cond (test w) z R.nought) (weight_reorder R x p w)) ∙ sum_reorder R p _
