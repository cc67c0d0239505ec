-- The weights of worlds, and their sums, in any commutative semiring.
use Rattle.std.specs.Prelude.{◌≡◌, ℕ, Bool, false, cond, not, ◌||◌, List, [], ◌∷◌, ◌==◌}
use Rattle.scale.specs.Semirings.{Semiring}
use Rattle.tree.specs.Formulas.{World}

-- the world with no row, and a world with one row more
abbrev pub none : World
none s = false

abbrev pub adding : ℕ → World → World
adding r w s = s == r || w s

-- the sum of v over the worlds of distinct rows: each of the rows in or out, and every other row out
abbrev pub sum_over_worlds : {V : Type 0} → Semiring V → List ℕ → (World → V) → V
sum_over_worlds R [] v = v none
sum_over_worlds R (r ∷ rs) v = R.plus (sum_over_worlds R rs (λ w. v (adding r w))) (sum_over_worlds R rs v)

-- what each row weighs in a world that has it, and in one that has it not
pub record Weights (V : Type 0) : Type 0 where
  pub ins : ℕ → V
  pub outs : ℕ → V

-- the weight of a world: the product, over the rows, of what each weighs in it
abbrev pub world_weight : {V : Type 0} → Semiring V → Weights V → List ℕ → World → V
world_weight R x [] w = R.unit
world_weight R x (r ∷ rs) w = R.times (cond (w r) (x.ins r) (x.outs r)) (world_weight R x rs w)

-- the summed weights of the worlds that pass a test
abbrev pub total : {V : Type 0} → Semiring V → Weights V → List ℕ → (World → Bool) → V
total R x rs test = sum_over_worlds R rs (λ w. cond (test w) (world_weight R x rs w) R.nought)

-- a pair of totals over the worlds of the rows: of those where the test holds, and of those where it fails
abbrev pub WorldSums : {V : Type 0} → Semiring V → Weights V → List ℕ → (World → Bool) → V × V → Type 0
WorldSums R x rs test p = (p.0 ≡ total R x rs test) × (p.1 ≡ total R x rs (λ w. not (test w)))
