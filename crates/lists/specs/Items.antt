-- The items of a list in fixed memory.
use Rattle.std.specs.Prelude.{ℕ, List, take, drop}
use Rattle.lists.specs.declared.FixedList.{FixedList}

-- the items: the first places, as many as there are
abbrev pub items_of : {T : Type 0} {N : ℕ} → FixedList T N → List T
items_of list = take list.len list.places

-- what the places behind them hold
abbrev pub rest_of : {T : Type 0} {N : ℕ} → FixedList T N → List T
rest_of list = drop list.len list.places
