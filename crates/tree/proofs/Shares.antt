-- Brackets of independent parts combine, and widen by at most 1.
use Rattle.std.proofs.Common.{◌≡◌, ℕ, ◌+◌, ◌-◌, ◌*◌, ◌≤◌, sym, ap, ◌∙◌, mul-le-mul_right, mul_assoc, mul_comm, add-mul, mul-le-mul, mul-le-mul_left, mul-add, sub-add_cancel, arith}
use native.Mathlib.Nat.{mul-mul-mul_comm}
use Rattle.tree.specs.Chances.{whole, Between, down, up, left}

-- the products of two bounds against a common whole
scaled_under : (s q a d n a' e m : ℕ) → s * q ≤ a * a' → a * d ≤ s * n → a' * e ≤ s * m → s * (q * (d * e)) ≤ s * (s * (n * m))
scaled_under s q a d n a' e m h p p' =
    let x : s * (q * (d * e)) ≤ (a * a') * (d * e) = rw (← (mul_assoc s q (d * e))) (mul-le-mul_right (d * e) h) in
    let y : (a * a') * (d * e) ≤ (s * n) * (s * m) = rw (mul-mul-mul_comm a a' d e) (mul-le-mul p p') in
    let z : (s * n) * (s * m) ≡ s * (s * (n * m)) = mul-mul-mul_comm s n s m ∙ mul_assoc s s (n * m) in
    omega arith

scaled_over : (s q b d n b' e m : ℕ) → b * b' ≤ s * q → s * n ≤ b * d → s * m ≤ b' * e → s * (s * (n * m)) ≤ s * (q * (d * e))
scaled_over s q b d n b' e m h p p' =
    let x : (b * b') * (d * e) ≤ s * (q * (d * e)) = rw (← (mul_assoc s q (d * e))) (mul-le-mul_right (d * e) h) in
    let y : (s * n) * (s * m) ≤ (b * b') * (d * e) = rw (mul-mul-mul_comm b b' d e) (mul-le-mul p p') in
    let z : (s * n) * (s * m) ≡ s * (s * (n * m)) = mul-mul-mul_comm s n s m ∙ mul_assoc s s (n * m) in
    omega arith

-- a product grows by at most the whole times what its factors grow
growth : (s a b a' b' : ℕ) → a ≤ b → a' ≤ b' → b ≤ s → b' ≤ s → b * b' ≤ a * a' + (s * (b - a) + s * (b' - a'))
growth s a b a' b' h h' k k' =
    let x : b * b' ≡ (b - a) * b' + a * b' = sym (ap (λ z. z * b') (sub-add_cancel h)) ∙ add-mul (b - a) a b' in
    let y : a * b' ≡ a * (b' - a') + a * a' = sym (ap (λ z. a * z) (sub-add_cancel h')) ∙ mul-add a (b' - a') a' in
    let u : (b - a) * b' ≤ s * (b - a) = rw (mul_comm s (b - a)) (mul-le-mul_left (b - a) k') in
    let v : a * (b' - a') ≤ s * (b' - a') = mul-le-mul_right (b' - a') (omega arith) in
    omega arith

-- both of two independent parts: the products, rounded outwards, bracket the exact product, and are wider than both parts by at most 1
pub and_between : (a b n d a' b' m e : ℕ) → Between a b n d → Between a' b' m e
    → Between (down a a') (up b b') (n * m) (d * e) × (up b b' - down a a' ≤ (b - a) + (b' - a') + 1)
and_between a b n d a' b' m e B B' =
    let lo : a * a' ≤ b * b' = mul-le-mul B.ordered B'.ordered in
    let hi : b * b' ≤ whole * whole = mul-le-mul B.small B'.small in
    let w = growth whole a b a' b' B.ordered B'.ordered B.small B'.small in
    let u = scaled_under whole (down a a') a d n a' e m (omega arith) B.under B'.under in
    let o = scaled_over whole (up b b') b d n b' e m (omega arith) B.over B'.over in
    (record { ordered = omega arith; small = omega arith; under = omega arith; over = omega arith }, omega arith)

-- what is left of a bracketed share is bracketed by what is left of its bounds
left_between : (a b n d : ℕ) → Between a b n d → Between (left b) (left a) (d - n) d
left_between a b n d B =
    let x : (whole - b) * d + b * d ≡ whole * d = sym (add-mul (whole - b) b d) ∙ ap (λ z. z * d) (sub-add_cancel B.small) in
    let y : (whole - a) * d + a * d ≡ whole * d = sym (add-mul (whole - a) a d) ∙ ap (λ z. z * d) (sub-add_cancel {n = whole} {m = a} (omega arith)) in
    record { ordered = omega arith; small = omega arith; under = omega arith; over = omega arith }

left_width : (a b : ℕ) {n d : ℕ} → Between a b n d → left a - left b ≡ b - a
left_width a b B = omega arith

-- at least one of two independent parts: what is left of both being left, rounded outwards
pub or_between : (a b n d a' b' m e : ℕ) → Between a b n d → Between a' b' m e
    → Between (left (up (left a) (left a'))) (left (down (left b) (left b'))) (d * e - (d - n) * (e - m)) (d * e)
    × (left (down (left b) (left b')) - left (up (left a) (left a')) ≤ (b - a) + (b' - a') + 1)
or_between a b n d a' b' m e B B' =
    let (C, w) = and_between (left b) (left a) (d - n) d (left b') (left a') (e - m) e (left_between a b n d B) (left_between a' b' m e B') in
    (left_between _ _ _ _ C, rw (left_width _ _ C) (rw (left_width a b B, left_width a' b' B') at w))
