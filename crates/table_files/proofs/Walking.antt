-- The fields of a record, one after the other.
use Rattle.std.proofs.Common.{◌≡◌, ℕ, ◌+◌, ◌-◌, ◌<◌, ◌≤◌, min, ltb, List, [], ◌∷◌, ◌++◌, length, get_or, take, drop, sym, refl, ap, ◌∙◌, subst, inl, inr, append_assoc, append-nil, arith, length-drop}
use Rattle.std.proofs.lemmas.List.{drop_all, drop_more, drop-drop, drop_at, take_at, get_or-drop, get_or-set_same, get_or-set_other, length-set}
use Rattle.std.proofs.lemmas.Bool.{cond-true, cond_both, lt-ltb, cases_lt}
use Rattle.table_files.specs.declared.fields.FieldPlace.{FieldPlace}
use Rattle.table_files.specs.declared.records.RecordPlaces.{RecordPlaces}
use Rattle.table_files.specs.Grammar.{COMMA, CR, LF, Field, Record, File}
use Rattle.table_files.specs.Fields.{Ends, EndsAt, nowhere, Holds}
use Rattle.table_files.specs.Places.{Found, Pushed}
use Rattle.table_files.specs.Tables.{Says}

-- what stands behind the first field of a file, where its record goes on with ws, and then these records
pub data Behind (ws : List (List ℕ)) (records : List (List (List ℕ))) : List ℕ → Type 0 where
  end : ws ≡ [] → records ≡ [] → Behind ws records []
  last : ws ≡ [] → records ≡ [] → Behind ws records (CR ∷ LF ∷ [])
  next : {b : ℕ} {rest : List ℕ} → ws ≡ [] → File (b ∷ rest) records → Behind ws records (CR ∷ LF ∷ b ∷ rest)
  more : {rest : List ℕ} → File rest (ws ∷ records) → Behind ws records (COMMA ∷ rest)

-- the first field of a file
pub record First (s : List ℕ) (values : List (List ℕ)) (records : List (List (List ℕ))) : Type 0 where
  pub raw : List ℕ
  pub value : List ℕ
  pub rest : List ℕ
  pub others : List (List ℕ)
  pub whole : s ≡ raw ++ rest
  pub values_are : values ≡ value ∷ others
  pub field : Field raw value
  pub behind : Behind others records rest

abbrev Firsts : List ℕ → List (List (List ℕ)) → Type 0
Firsts s [] = ⊥
Firsts s (values ∷ records) = First s values records

pub firsts : {s : List ℕ} {all : List (List (List ℕ))} → File s all → Firsts s all
firsts (File.last (Record.last {raw} {value} fd)) =
    record {
      raw = raw;
      value = value;
      rest = [];
      others = [];
      whole = sym (append-nil raw);
      values_are = refl;
      field = fd;
      behind = end refl refl;
    }
firsts (File.last (Record.more {raw} {value} {rest} {values} fd rc)) =
    record {
      raw = raw;
      value = value;
      rest = COMMA ∷ rest;
      others = values;
      whole = refl;
      values_are = refl;
      field = fd;
      behind = more (File.last rc);
    }
firsts (File.ended (Record.last {raw} {value} fd)) =
    record {
      raw = raw;
      value = value;
      rest = CR ∷ LF ∷ [];
      others = [];
      whole = refl;
      values_are = refl;
      field = fd;
      behind = last refl refl;
    }
firsts (File.ended (Record.more {raw} {value} {rest} {values} fd rc)) =
    record {
      raw = raw;
      value = value;
      rest = COMMA ∷ (rest ++ (CR ∷ LF ∷ []));
      others = values;
      whole = append_assoc raw (COMMA ∷ rest) (CR ∷ LF ∷ []);
      values_are = refl;
      field = fd;
      behind = more (File.ended rc);
    }
firsts (File.more {b = b} {rest = s} (Record.last {raw} {value} fd) fl) =
    record {
      raw = raw;
      value = value;
      rest = CR ∷ LF ∷ b ∷ s;
      others = [];
      whole = refl;
      values_are = refl;
      field = fd;
      behind = next refl fl;
    }
firsts (File.more {b = b} {rest = s} (Record.more {raw} {value} {rest} {values} fd rc) fl) =
    record {
      raw = raw;
      value = value;
      rest = COMMA ∷ (rest ++ (CR ∷ LF ∷ b ∷ s));
      others = values;
      whole = append_assoc raw (COMMA ∷ rest) (CR ∷ LF ∷ b ∷ s);
      values_are = refl;
      field = fd;
      behind = more (File.more rc fl);
    }

behind_ends : {ws : List (List ℕ)} {records : List (List (List ℕ))} {s : List ℕ} → Behind ws records s → Ends s
behind_ends (end _ _) = Ends.all
behind_ends (last _ _) = Ends.line
behind_ends (next _ _) = Ends.line
behind_ends (more _) = Ends.comma

module _ {ws : List (List ℕ)} {records : List (List (List ℕ))} where
  behind_comma : {s : List ℕ} → Behind ws records s → (t : List ℕ) → s ≡ COMMA ∷ t → File t (ws ∷ records)
  behind_comma (end _ _) t e = let z : ◌≡◌ {A = ℕ} 0 1 = cc in absurd (omega arith)
  behind_comma (last _ _) t e = let z : ◌≡◌ {A = ℕ} CR COMMA = cc in absurd (omega arith)
  behind_comma (next _ _) t e = let z : ◌≡◌ {A = ℕ} CR COMMA = cc in absurd (omega arith)
  behind_comma (more {rest} f) t e = let z : rest ≡ t = cc in subst (λ u. File u (ws ∷ records)) z f

  behind_line : {s : List ℕ} → Behind ws records s → ((t : List ℕ) → s ≡ COMMA ∷ t → ⊥) → (ws ≡ []) × Says (drop 2 s) records
  behind_line (end e f) n = (e, f)
  behind_line (last e f) n = (e, f)
  behind_line (next e f) n = (e, f)
  behind_line (more {rest} f) n = absurd (n rest refl)

-- one more place

module _ {x y : RecordPlaces} {p : FieldPlace} (h : Pushed x y p) where
  pushed_here : x.fields < 5 → length x.places ≡ 5 → get_or y.places x.fields nowhere ≡ p
  pushed_here l r =
      ap (λ t. get_or t x.fields nowhere) (h.places ∙ cond-true (ltb x.fields 5) _ _ (lt-ltb x.fields 5 l))
      ∙ get_or-set_same x.places x.fields p nowhere (omega arith)

  pushed_other : (k : ℕ) → k < x.fields → get_or y.places k nowhere ≡ get_or x.places k nowhere
  pushed_other k l =
      rw h.places
      (cond_both (ltb x.fields 5) _ _ (λ t. get_or t k nowhere ≡ get_or x.places k nowhere)
      (λ _. get_or-set_other x.places x.fields k p nowhere (omega arith)) (λ _. refl))

  pushed_room : length x.places ≡ 5 → length y.places ≡ 5
  pushed_room r = rw h.places (cond_both (ltb x.fields 5) _ _ (λ t. length t ≡ 5) (λ _. length-set x.places x.fields p ∙ r) (λ _. r))

-- the first fields of a record with these values are found, and this stands behind them
pub record Partly (values : List (List ℕ)) (records : List (List (List ℕ))) (x : RecordPlaces) (rest : List ℕ) : Type 0 where
  pub count : x.fields ≤ length values
  pub behind : Behind (drop x.fields values) records rest
  pub stand : (k : ℕ) → k < x.fields → k < 5 → Holds x.text.now (get_or x.places k nowhere) (get_or values k [])

-- the walk through the record that starts at a byte, up to the end of a field
pub record Going (text : List ℕ) (start at : ℕ) (x : RecordPlaces) : Type 0 where
  pub few : x.fields + start ≤ at + 1
  pub moves : start ≤ at
  pub text_is : x.text.now ≡ text
  pub room : length x.places ≡ 5
  pub partly : (values : List (List ℕ)) (records : List (List (List ℕ))) → File (drop start text) (values ∷ records) → Partly values records x (drop at text)

-- the first field of a file

first_tail : {values others : List (List ℕ)} {value : List ℕ} → values ≡ value ∷ others → drop 1 values ≡ others
first_tail e = ap (drop 1) e

module _ (text : List ℕ) (p : FieldPlace) (ends : EndsAt (drop p.start text) (p.end - p.start)) (after : p.start ≤ p.end) (values : List (List ℕ))
    (records : List (List (List ℕ))) (fl : File (drop p.start text) (values ∷ records)) where
  abbrev one : First (drop p.start text) values records
  one = firsts fl

  end_is : p.end - p.start ≡ length one.raw
  end_is = ends one.raw one.value one.rest one.whole one.field (behind_ends one.behind)

  first_rest : drop p.end text ≡ one.rest
  first_rest =
      ap (λ n. drop n text) (omega (arith, after))
      ∙ (sym (drop-drop (p.end - p.start) p.start text)
      ∙ (ap (drop (p.end - p.start)) one.whole ∙ drop_at one.raw one.rest (p.end - p.start) (sym end_is)))

  pub first_behind : Behind one.others records (drop p.end text)
  first_behind = rw first_rest one.behind

  pub first_holds : Holds text p one.value
  first_holds = subst (λ s. Field s one.value) (sym (ap (take (p.end - p.start)) one.whole ∙ take_at one.raw one.rest (p.end - p.start) (sym end_is))) one.field

pub going_first : (text : List ℕ) (p : FieldPlace) (x : RecordPlaces) → EndsAt (drop p.start text) (p.end - p.start) → p.start ≤ p.end → x.text.now ≡ text →
    x.places ≡ p ∷ nowhere ∷ nowhere ∷ nowhere ∷ nowhere ∷ [] → x.fields ≡ 1 → Going text p.start p.end x
going_first text p x ends after t e n =
    record {
      few = omega arith;
      moves = after;
      text_is = t;
      room = ap length e;
      partly = λ values records fl.
          let f = one text p ends after values records fl in
          record {
            count = omega (arith, ap length f.values_are);
            behind = rw (n, first_tail f.values_are) (first_behind text p ends after values records fl);
            stand = λ k l five. let k_is : k ≡ 0 = omega arith in rw (k_is, e, t, f.values_are) (first_holds text p ends after values records fl);
          };
    }

module _ (text : List ℕ) (start at : ℕ) (x y : RecordPlaces) (p : FieldPlace) (h : Going text start at x) (here : p.start ≡ at + 1) (after : p.start ≤ p.end)
    (ends : EndsAt (drop p.start text) (p.end - p.start)) (up : Pushed x y p) (comma : drop at text ≡ COMMA ∷ drop (at + 1) text) where
  module _ (values : List (List ℕ)) (records : List (List (List ℕ))) (fl : File (drop start text) (values ∷ records)) where
    abbrev file : File (drop p.start text) (drop x.fields values ∷ records)
    file = rw here (behind_comma (h.partly values records fl).behind (drop (at + 1) text) comma)

    abbrev field : First (drop p.start text) (drop x.fields values) records
    field = one text p ends after (drop x.fields values) records file

    more_values : x.fields < length values
    more_values = omega (arith, length-drop x.fields values, ap length field.values_are)

    both : get_or values x.fields [] ∷ drop (x.fields + 1) values ≡ field.value ∷ field.others
    both = sym (drop_more values x.fields [] more_values) ∙ field.values_are

    value_is : get_or values x.fields [] ≡ field.value
    value_is = let b = both in cc

    others_are : drop (x.fields + 1) values ≡ field.others
    others_are = let b = both in cc

    more_stand : (k : ℕ) → k < y.fields → k < 5 → Holds y.text.now (get_or y.places k nowhere) (get_or values k [])
    more_stand k l five =
        rw up.text
        (elim (cases_lt k x.fields) [
          | inl m ↦ rw (pushed_other up k m) ((h.partly values records fl).stand k m five)
          | inr m ↦
              let n : k ≡ x.fields = omega (arith, up.fields) in
              rw (n, pushed_here up (omega arith) h.room, value_is, h.text_is) (first_holds text p ends after (drop x.fields values) records file)
        ])

  pub going_more : Going text start p.end y
  going_more =
      record {
        few = omega (arith, h.few, up.fields);
        moves = omega (arith, h.moves);
        text_is = ap (λ t. t.now) up.text ∙ h.text_is;
        room = pushed_room up h.room;
        partly = λ values records fl.
            record {
              count = omega (arith, more_values values records fl, up.fields);
              behind = rw (up.fields, others_are values records fl) (first_behind text p ends after (drop x.fields values) records (file values records fl));
              stand = more_stand values records fl;
            };
      }

pub comma_here : (text : List ℕ) (at : ℕ) (t : List ℕ) → drop at text ≡ COMMA ∷ t → (at < length text) × (get_or text at 0 ≡ COMMA)
comma_here text at t e =
    let l = length-drop at text in
    let k = ap length e in
    (omega arith, sym (get_or-drop at text 0 0 ∙ ap (λ m. get_or text m 0) (omega arith)) ∙ ap (λ s. get_or s 0 0) e)

-- no more is dropped than there is
pub drop_least : (text : List ℕ) (n m : ℕ) → m ≡ min n (length text) → drop m text ≡ drop n text
drop_least text n m e =
    elim (cases_lt n (length text)) [
      | inl l ↦ ap (λ k. drop k text) (omega (arith, e))
      | inr l ↦ drop_all m text (omega (arith, e)) ∙ sym (drop_all n text l)
    ]

-- the fields of the record, all found where no comma stands behind them
pub going_found : (text : List ℕ) (start at : ℕ) (x : RecordPlaces) → Going text start at x → ((t : List ℕ) → drop at text ≡ COMMA ∷ t → ⊥) → (n : ℕ) →
    drop n text ≡ drop (at + 2) text → (values : List (List ℕ)) (records : List (List (List ℕ))) → File (drop start text) (values ∷ records) →
    Found values records x (drop n text)
going_found text start at x h none n is values records fl =
    let p = h.partly values records fl in
    let b = behind_line p.behind none in
    record {
      fields = omega (arith, p.count, length-drop x.fields values, ap length b.0);
      stand = λ k l five. p.stand k (omega (arith, p.count, length-drop x.fields values, ap length b.0)) five;
      rest = rw (is, ← (drop-drop 2 at text)) b.1;
    }
