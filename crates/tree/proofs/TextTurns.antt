-- What is written of an and or an or, child by child.
use Rattle.std.proofs.Common.{◌≡◌, ℕ, ◌+◌, ◌<◌, ◌≤◌, Bool, List, [], ◌∷◌, ◌++◌, length, get_or, sym, ap, ◌∙◌, subst, append_assoc, append-nil, arith, length-append}
use Rattle.text.specs.Writers.{Wrote, room_of}
use Rattle.text.specs.declared.Writer.{Writer}
use Rattle.text.proofs.Writing.{wrote_both, wrote_as}
use Rattle.tree.specs.Formulas.{Formula, row, under, Form}
use Rattle.tree.specs.declared.Kind.{Kind}
use Rattle.tree.specs.declared.Kind.TheVariants.{And, Or}
use Rattle.tree.specs.declared.Node.{Node}
use Rattle.tree.specs.declared.Node.TheVariants.{Vacant, Row}
use Rattle.tree.specs.Nodes.{inner}
use Rattle.tree.specs.Layout.{node, parts, laid}
use Rattle.tree.specs.Trees.{gather}
use Rattle.tree.specs.Texts.{gap, is_and, opening, closing, row_text, formula_text}
use Rattle.tree.proofs.Nested.{inner_same, inner_not_row, row_node, at_node}
use Rattle.tree.proofs.Progress.{Progress, Branch, inner_at, start_at, next_child}

-- the text of some children of a node of the kind, with no brackets round them
abbrev pub body : Kind → Formula → List ℕ
body k f = formula_text (is_and k) f

body_under : (k : Kind) (f g : Formula) → body k (under k f g) ≡ body k f ++ (gap k ++ body k g)
body_under And f g = append-nil _
body_under Or f g = append-nil _

-- a node's text: brackets round its children's
whole_text : (k : Kind) (inside : Bool) (f : Formula) (n : ℕ) → node f ≡ inner k n → formula_text inside f ≡ opening k inside ++ (body k f ++ closing k inside)
whole_text k inside (row r) n e = absurd (inner_not_row k n r (sym e))
whole_text k inside (under j f g) n e =
    subst (λ i. formula_text inside (under j f g) ≡ opening i inside ++ (body i (under j f g) ++ closing i inside)) (inner_same j k _ n e).0
    (ap (λ t. opening j inside ++ (t ++ closing j inside)) (sym (body_under j f g)))

longer : (k : Kind) (f : Formula) (gs : List Formula) → length (body k f) ≤ length (body k (gather k f gs))
longer k f [] = omega arith
longer k f (g ∷ gs) = omega (arith, longer k (under k f g) gs, ap length (body_under k f g), length-append (body k f) (gap k ++ body k g))

module _ (k : Kind) (inside : Bool) (w₀ : Writer) (room : w₀.at ≤ room_of w₀) where
  -- what opens the node is written, and some children
  abbrev pub Begun : Writer → Formula → Type 0
  Begun w f = Wrote w₀ w (opening k inside ++ body k f)

  pub begun_first : {w w' : Writer} (f : Formula) → Wrote w₀ w (opening k inside) → Wrote w w' (body k f) → Begun w' f
  begun_first f a b = wrote_both a b room

  pub begun_more : {w w' w'' : Writer} (f t : Formula) → Begun w f → Wrote w w' (gap k) → Wrote w' w'' (body k t) → Begun w'' (under k f t)
  begun_more f t a b c =
      let e : ((opening k inside ++ body k f) ++ gap k) ++ body k t ≡ opening k inside ++ body k (under k f t) =
      append_assoc (opening k inside ++ body k f) (gap k) (body k t) ∙ append_assoc (opening k inside) (body k f) (gap k ++ body k t) ∙ ap (λ x. opening k inside ++ x) (sym (body_under k f t)) in
      wrote_as e (wrote_both (wrote_both a b room) c room)

  pub begun_all : {w w' : Writer} (f : Formula) (n : ℕ) → node f ≡ inner k n → Begun w f → Wrote w w' (closing k inside) → Wrote w₀ w' (formula_text inside f)
  begun_all f n e a b = wrote_as (append_assoc (opening k inside) (body k f) (closing k inside) ∙ sym (whole_text k inside f n e)) (wrote_both a b room)

module _ {ns : List Node} {k : Kind} {at size : ℕ} (b : Branch ns k at size) (F : Form) (l : ns ≡ laid F) (inside : Bool) (w₀ : Writer)
    (fits : w₀.at + length (formula_text inside (get_or (parts F) at (row 0))) ≤ room_of w₀) where
  abbrev self : Formula
  self = get_or (parts F) at (row 0)

  sum_up : length (formula_text inside self) ≡ length (opening k inside) + (length (body k self) + length (closing k inside))
  sum_up =
      ap length (whole_text k inside self size (inner_at b F l))
      ∙ length-append (opening k inside) (body k self ++ closing k inside) ∙ ap (λ n. length (opening k inside) + n) (length-append (body k self) (closing k inside))

  -- there is room for what opens the node
  pub room_open : w₀.at + length (opening k inside) ≤ room_of w₀
  room_open = omega (arith, fits, sum_up)

  -- for the first child
  pub room_first : (w : Writer) → Wrote w₀ w (opening k inside) → w.at + length (body k (get_or (parts F) (at + 1) (row 0))) ≤ room_of w
  room_first w a =
      let s = start_at b F l in
      omega (arith, fits, sum_up, a.place, a.room, ap (λ f. length (body k f)) s.begin.here, ap (λ f. length (body k f)) s.whole, longer k s.first s.others)

  -- for each other
  pub room_next : (c : ℕ) (w : Writer) → Progress (parts F) k at (at + size) c (λ f. Wrote w₀ w (opening k inside ++ body k f)) → c < at + size
      → w.at + (length (gap k) + length (body k (get_or (parts F) c (row 0)))) ≤ room_of w
  room_next c w p h =
      let n = next_child (parts F) k at (at + size) c _ p h in
      let t = n.next in
      omega (
        arith,
        fits,
        sum_up,
        longer k (under k p.done t) n.later,
        ap (λ f. length (body k f)) n.whole,
        ap length (body_under k p.done t),
        length-append (body k p.done) (gap k ++ body k t),
        length-append (gap k) (body k t),
        ap (λ f. length (body k f)) n.begin.here,
        p.worth.place,
        p.worth.room,
        length-append (opening k inside) (body k p.done),
      )

  -- and for what closes it
  pub room_close : (w : Writer) → Wrote w₀ w (opening k inside ++ body k self) → w.at + length (closing k inside) ≤ room_of w
  room_close w a = omega (arith, fits, sum_up, a.place, a.room, length-append (opening k inside) (body k self))

-- a row's text
pub row_written : (ns : List Node) (F : Form) → ns ≡ laid F → (at : ℕ) → at < length ns → (r : ℕ) → get_or ns at Vacant ≡ Row r → (b : Bool) → formula_text b (get_or (parts F) at (row 0)) ≡ row_text r
row_written ns F l at h r e b = ap (formula_text b) (row_node (get_or (parts F) at (row 0)) r (sym (at_node ns F l at Vacant h).1 ∙ e))
