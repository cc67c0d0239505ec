-- The numbers of a row's fields, one after the other.
use Rattle.std.proofs.Common.{◌≡◌, ℕ, ◌+◌, ◌-◌, ◌<◌, ◌≤◌, min, false, eqb, ◌⊎◌, List, [], length, get_or, take, drop, set, Some, None, Err, Option, sym, refl, ap, ◌∙◌, subst, inl, inr, arith, length-drop, length-take}
use Rattle.std.specs.Str.Parse.{digits_value}
use Rattle.std.proofs.lemmas.List.{drop-drop, get_or-drop, get_or-set_same, get_or-set_other, get_or-take, length-set}
use Rattle.std.proofs.lemmas.Bool.{eqb-false, ne_eqb, cases_lt}
use Rattle.table_files.specs.declared.fields.FieldPlace.{FieldPlace}
use Rattle.table_files.specs.declared.records.RecordPlaces.{RecordPlaces}
use Rattle.table_files.specs.Fields.{Holds, nowhere}
use Rattle.table_files.specs.Places.{Found, Number, Numbers}
use Rattle.table_files.specs.Tables.{Numeral, Rule}

-- the fields with these values stand at these places
abbrev pub Standing : List ℕ → List FieldPlace → List (List ℕ) → Type 0
Standing text places values =
    (length values ≡ length places) × ((k : ℕ) → k < length values → Holds text (get_or places k nowhere) (get_or values k []))

-- the numbers of the first fields, and the places of the others
pub record Counted (text : List ℕ) (places : List FieldPlace) (field : ℕ) (left : List FieldPlace) (ns : List ℕ) : Type 0 where
  pub room : length ns ≡ 5
  pub inside : field ≤ length places
  pub left_is : left ≡ drop field places
  pub so_far : (values : List (List ℕ)) → Standing text places values →
      ((g : ℕ) → g < field → Rule values g × (get_or ns g 0 ≡ digits_value 10 (get_or values g [])))
  pub beyond : (g : ℕ) → field ≤ g → get_or ns g 0 ≡ 0

module _ (text : List ℕ) (places : List FieldPlace) (field : ℕ) (left : List FieldPlace) (ns : List ℕ) (h : Counted text places field left ns) where
  left_length : length left ≡ length places - field
  left_length = ap length h.left_is ∙ length-drop field places

  pub left_first : get_or left 0 nowhere ≡ get_or places field nowhere
  left_first = ap (λ l. get_or l 0 nowhere) h.left_is ∙ (get_or-drop field places 0 nowhere ∙ ap (λ k. get_or places k nowhere) (omega arith))

  module _ (some : 0 < length left) (rest : List FieldPlace) (rest_is : rest ≡ drop 1 left)
      (o : Option ℕ) (number : (v : List ℕ) → Holds text (get_or left 0 nowhere) v → Number (eqb (length rest) 0) v o) where
    rest_length : length rest + field + 1 ≡ length places
    rest_length = omega (arith, left_length, ap length rest_is, length-drop 1 left, some)

    number_here : (values : List (List ℕ)) → Standing text places values → Number (eqb (length rest) 0) (get_or values field []) o
    number_here values s =
        number (get_or values field [])
        (subst (λ p. Holds text p (get_or values field [])) (sym left_first) (s.1 field (omega (arith, left_length, s.0))))

    abbrev Kept : List (List ℕ) → Type 0
    Kept values = Numeral (get_or values field []) ⊎ ((get_or values field [] ≡ []) × (eqb (length rest) 0 ≡ false))

    -- the rule for this field, by whether it is the last
    rule_from : (values : List (List ℕ)) → Standing text places values → Kept values → Rule values field
    rule_from values s (inl n) = inl n
    rule_from values s (inr (e, f)) =
        let k = eqb-false (length rest) 0 f in inr (e, omega (arith, rest_length, s.0))

    rule_to : (values : List (List ℕ)) → Standing text places values → Rule values field → Kept values
    rule_to values s (inl n) = inl n
    rule_to values s (inr (e, l)) = inr (e, ne_eqb (length rest) 0 (λ z. omega (arith, rest_length, s.0)))

  pub wrong_here : 0 < length left → (rest : List FieldPlace) → rest ≡ drop 1 left →
      ((v : List ℕ) → Holds text (get_or left 0 nowhere) v → Number (eqb (length rest) 0) v None) → (values : List (List ℕ)) →
      Standing text places values → Numbers values (Err (field + 1))
  wrong_here some rest e number values s = (
    field,
    refl,
    (
      omega (arith, left_length, s.0),
      λ r. number_here some rest e None number values s (rule_to some rest e None number values s r),
      λ g l. (h.so_far values s g l).0,
    ),
  )

  pub counted_more : 0 < length left → (rest : List FieldPlace) → rest ≡ drop 1 left → (n : ℕ) →
      ((v : List ℕ) → Holds text (get_or left 0 nowhere) v → Number (eqb (length rest) 0) v (Some n)) → length places ≤ 5 →
      Counted text places (field + 1) rest (set ns field n)
  counted_more some rest e n number five =
      record {
        room = length-set ns field n ∙ h.room;
        inside = omega (arith, left_length);
        left_is = e ∙ (ap (drop 1) h.left_is ∙ drop-drop 1 field places);
        so_far = λ values s g l.
            elim (cases_lt g field) [
              | inl m ↦
                  let k = h.so_far values s g m in (k.0, get_or-set_other ns field g n 0 (omega arith) ∙ k.1)
              | inr m ↦
                  let k = number_here some rest e (Some n) number values s in
                  let g_is : field ≡ g = omega arith in
                  let lt : field < length ns = omega (arith, left_length, h.room) in
                  subst (λ j. Rule values j × (get_or (set ns field n) j 0 ≡ digits_value 10 (get_or values j []))) g_is
                  (rule_from some rest e (Some n) number values s k.0, get_or-set_same ns field n 0 lt ∙ k.1)
            ];
        beyond = λ g l. get_or-set_other ns field g n 0 (omega arith) ∙ h.beyond g (omega arith);
      }

-- the places of a record's fields, where there are at most five
pub standing_found : (values : List (List ℕ)) (records : List (List (List ℕ))) (r : RecordPlaces) (rest : List ℕ) → Found values records r rest →
    length values ≤ 5 → length r.places ≡ 5 → (n : ℕ) → n ≡ min r.fields 5 → Standing r.text.now (take n r.places) values
standing_found values records r rest h few room n is =
    let l = length-take n r.places in
    let f = h.fields in (
      omega arith,
      λ k lk. subst (λ p. Holds r.text.now p (get_or values k [])) (sym (get_or-take n r.places k nowhere (omega arith))) (h.stand k lk (omega arith)),
    )
