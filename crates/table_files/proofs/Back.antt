-- A header and rows as they are written are a table file, with the same rows.
use Rattle.std.proofs.Common.{◌≡◌, ℕ, zero, suc, ◌+◌, ◌-◌, ◌*◌, ◌^◌, ◌<◌, ◌≤◌, ltb, List, [], ◌∷◌, ◌++◌, map, length, get_or, take, decimal, sym, refl, ap, ◌∙◌, subst, ap₂, inl, inr, append_assoc, arith, length-append, length-take}
use Rattle.std.specs.List.{flat_map, AllByRecursion}
use Rattle.std.specs.Str.Parse.{AllDigits, digits_value}
use Rattle.std.proofs.lemmas.Fmt.{decimal_is_IsNumeral, decimal_nonempty}
use Rattle.std.proofs.ByRecursion.{All-get_or, All-append}
use Rattle.std.proofs.lemmas.List.{get_or_at, get_or_append_left, get_or-map, get_or-take, length-map}
use Rattle.std.proofs.lemmas.Str.Parse.{digit_from_value}
use Rattle.std.proofs.lemmas.Bool.{cond_both, ltb-true, ltb-false}
use Rattle.table_files.specs.declared.rows.Row.{Row}
use Rattle.table_files.specs.Grammar.{COMMA, CR, LF, NonEscaped, Field, Record, File}
use Rattle.table_files.specs.Tables.{Numeral, LawfulHeader, LawfulRow, cell, row_of, sure}
use Rattle.table_files.specs.Written.{piece, line, column, columns, names, decimals, fields, header_text, row_text, RowOfWidth, WrittenReadsBack}
use Rattle.table_files.proofs.Reached.{NonEmpty, non_empty}
use Rattle.table_files.proofs.Texts.{decimal_short, header_length, row_length}

-- a value that is written as it is
abbrev Bare : List ℕ → Type 0
Bare v = NonEscaped v v

bare_digits : (ds : List ℕ) → AllDigits 10 ds → Bare ds
bare_digits [] d = NonEscaped.none
bare_digits (b ∷ ds) d =
    let k = digit_from_value b d.0 in
    NonEscaped.more (inr (inr (omega (arith, k.0), omega (arith, k.1)))) (bare_digits ds d.1)

bare_decimal : (n : ℕ) → n < 2 ^ 64 → Bare (decimal n)
bare_decimal n h = bare_digits (decimal n) (decimal_is_IsNumeral n h).0.1

bare_columns : (w : ℕ) → w < 2 ^ 64 → AllByRecursion Bare (columns w)
bare_columns zero h = tt
bare_columns (suc w) h =
    All-append Bare (columns w) (column (suc w) ∷ []) (bare_columns w (omega arith))
    (NonEscaped.more (inr (inr (omega arith, omega arith))) (bare_decimal (suc w) h), tt)

bare_sure : Bare sure
bare_sure =
    NonEscaped.more (inr (inr (omega arith, omega arith)))
    (NonEscaped.more (inr (inr (omega arith, omega arith)))
    (NonEscaped.more (inr (inr (omega arith, omega arith))) (NonEscaped.more (inr (inr (omega arith, omega arith))) NonEscaped.none)))

bare_map : (ns : List ℕ) (w : ℕ) → ((k : ℕ) → get_or ns k 0 < 2 ^ 32) → AllByRecursion Bare (map decimal (take w ns))
bare_map ns zero h = tt
bare_map [] (suc w) h = tt
bare_map (n ∷ ns) (suc w) h = (bare_decimal n (let k = h 0 in omega arith), bare_map ns w (λ k. h (suc k)))

-- a line is a record

line_record : (front : List (List ℕ)) (last : List ℕ) → AllByRecursion Bare front → Bare last → Record (flat_map piece front ++ last) (front ++ (last ∷ []))
line_record [] last h l = Record.last (Field.plain l)
line_record (v ∷ vs) last h l =
    subst (λ s. Record s (v ∷ (vs ++ (last ∷ []))))
    (sym (ap (λ s. s ++ last) (append_assoc v (COMMA ∷ []) (flat_map piece vs)) ∙ append_assoc v (COMMA ∷ flat_map piece vs) last))
    (Record.more (Field.plain h.0) (line_record vs last h.1 l))

file_more : {raw : List ℕ} {vs : List (List ℕ)} {rs : List (List (List ℕ))} → Record raw vs → (s : List ℕ) → NonEmpty s → File s rs →
    File (raw ++ (CR ∷ LF ∷ s)) (vs ∷ rs)
file_more rc [] o fl = absurd o
file_more rc (b ∷ s) o fl = File.more rc fl

line_more : (front : List (List ℕ)) (last s : List ℕ) → line front last ++ s ≡ (flat_map piece front ++ last) ++ (CR ∷ LF ∷ s)
line_more front last s = simp append_assoc

lines_file : (w : ℕ) (front : List (List ℕ)) (last : List ℕ) (rows : List Row) → AllByRecursion Bare front → Bare last → AllByRecursion (RowOfWidth w) rows →
    File (line front last ++ flat_map (row_text w) rows) ((front ++ (last ∷ [])) ∷ map (fields w) rows)
lines_file w front last [] h l a = rw (line_more front last []) (File.ended (line_record front last h l))
lines_file w front last (row ∷ rows) h l a =
    let d = decimal row.sureness in
    let s = row_text w row ++ flat_map (row_text w) rows in
    let next = lines_file w (decimals w row) d rows (bare_map row.cells w a.0.small)
    (bare_decimal row.sureness (let k = a.0.sure_small in omega arith)) a.1 in
    rw (line_more front last s)
    (file_more (line_record front last h l) s
    (subst NonEmpty (sym (line_more (decimals w row) d (flat_map (row_text w) rows))) (non_empty (flat_map piece (decimals w row) ++ d) CR (LF ∷ flat_map (row_text w) rows))) next)

-- its records are a table

columns_count : (w : ℕ) → length (columns w) ≡ w
columns_count zero = refl
columns_count (suc w) = omega (arith, length-append (columns w) (column (suc w) ∷ []), columns_count w)

names_count : (w : ℕ) → length (names w) ≡ w + 1
names_count w = omega (arith, length-append (columns w) (sure ∷ []), columns_count w)

header_lawful : (w : ℕ) → 1 ≤ w → w ≤ 4 → LawfulHeader (names w)
header_lawful w l m =
    let n = names_count w in
    let c = columns_count w in
    (omega arith, omega arith, get_or_at (columns w) sure [] [] (length (names w) - 1) (omega arith))

decimal_numeral : (n : ℕ) → n < 2 ^ 32 → Numeral (decimal n)
decimal_numeral n h =
    let r = decimal_is_IsNumeral n (omega arith) in
    let v = r.1 in
    (decimal_nonempty n (omega arith), decimal_short n h, r.0.1, omega arith)

numerals : (ns : List ℕ) (w : ℕ) → ((k : ℕ) → get_or ns k 0 < 2 ^ 32) → AllByRecursion Numeral (map decimal (take w ns))
numerals ns zero h = tt
numerals [] (suc w) h = tt
numerals (n ∷ ns) (suc w) h = (decimal_numeral n (h 0), numerals ns w (λ k. h (suc k)))

module _ (w : ℕ) (le : w ≤ 4) (row : Row) (h : RowOfWidth w row) where
  decimals_count : length (decimals w row) ≡ w
  decimals_count = omega (arith, length-map (take w row.cells) decimal, length-take w row.cells, h.four)

  fields_count : length (fields w row) ≡ w + 1
  fields_count = omega (arith, length-append (decimals w row) (decimal row.sureness ∷ []), decimals_count)

  row_lawful : LawfulRow (w + 1) (fields w row)
  row_lawful = (
    fields_count,
    λ f l.
        inl (All-get_or Numeral (fields w row) f [] l
        (All-append Numeral (decimals w row) (decimal row.sureness ∷ []) (numerals row.cells w h.small) (decimal_numeral row.sureness h.sure_small, tt))),
  )

  number_back : (k : ℕ) → k < w → digits_value 10 (get_or (fields w row) k []) ≡ get_or row.cells k 0
  number_back k l =
      let n = get_or row.cells k 0 in
      let small = h.small k in
      let e : get_or (fields w row) k [] ≡ decimal n =
      get_or_append_left (decimals w row) (decimal row.sureness ∷ []) [] k (omega (arith, decimals_count))
      ∙ (get_or-map decimal (take w row.cells) k 0 [] (omega (arith, length-take w row.cells, h.four)) ∙ ap decimal (get_or-take w row.cells k 0 l)) in
      ap (digits_value 10) e ∙ (decimal_is_IsNumeral n (omega arith)).1

  cell_back : (k : ℕ) → cell (fields w row) k ≡ get_or row.cells k 0
  cell_back k =
      cond_both (ltb (k + 1) (length (fields w row))) _ _ (λ n. n ≡ get_or row.cells k 0)
      (λ t. number_back k (omega (arith, ltb-true (k + 1) (length (fields w row)) t, fields_count)))
      (λ f. sym (h.beyond k (omega (arith, ltb-false (k + 1) (length (fields w row)) f, fields_count))))

  sureness_back : digits_value 10 (get_or (fields w row) (length (fields w row) - 1) []) ≡ row.sureness
  sureness_back =
      let small = h.sure_small in
      ap (digits_value 10) (get_or_at (decimals w row) (decimal row.sureness) [] [] (length (fields w row) - 1) (omega (arith, fields_count, decimals_count)))
      ∙ (decimal_is_IsNumeral row.sureness (omega arith)).1

  row_back : row_of (fields w row) ≡ row
  row_back = rows row.cells h.four (cell_back 0) (cell_back 1) (cell_back 2) (cell_back 3) sureness_back
    where
      rows : {a b c d s t : ℕ} (cs : List ℕ) → length cs ≡ 4 → a ≡ get_or cs 0 0 → b ≡ get_or cs 1 0 → c ≡ get_or cs 2 0 → d ≡ get_or cs 3 0 → s ≡ t →
          ◌≡◌ {A = Row} (record { cells = a ∷ b ∷ c ∷ d ∷ []; sureness = s }) (record { cells = cs; sureness = t })
      rows [] l p q r u v = absurd (omega arith)
      rows (_ ∷ []) l p q r u v = absurd (omega arith)
      rows (_ ∷ _ ∷ []) l p q r u v = absurd (omega arith)
      rows (_ ∷ _ ∷ _ ∷ []) l p q r u v = absurd (omega arith)
      rows (_ ∷ _ ∷ _ ∷ _ ∷ []) l p q r u v = cc
      rows (_ ∷ _ ∷ _ ∷ _ ∷ _ ∷ cs) l p q r u v = absurd (omega arith)

rows_lawful : (w : ℕ) → w ≤ 4 → (rows : List Row) → AllByRecursion (RowOfWidth w) rows → AllByRecursion (LawfulRow (length (names w))) (map (fields w) rows)
rows_lawful w l [] h = tt
rows_lawful w l (row ∷ rows) h =
    (subst (λ m. LawfulRow m (fields w row)) (sym (names_count w)) (row_lawful w l row h.0), rows_lawful w l rows h.1)

rows_back : (w : ℕ) → w ≤ 4 → (rows : List Row) → AllByRecursion (RowOfWidth w) rows → map row_of (map (fields w) rows) ≡ rows
rows_back w l [] h = refl
rows_back w l (row ∷ rows) h = ap₂ ◌∷◌ (row_back w l row h.0) (rows_back w l rows h.1)

rows_short : (w : ℕ) → w ≤ 4 → (rows : List Row) → AllByRecursion (RowOfWidth w) rows → length (flat_map (row_text w) rows) ≤ 56 * length rows
rows_short w l [] h = omega arith
rows_short w l (row ∷ rows) h =
    omega (arith, length-append (row_text w row) (flat_map (row_text w) rows), row_length w row l h.0.small h.0.sure_small, rows_short w l rows h.1)

pub written_reads_back : WrittenReadsBack
written_reads_back w rows l m h =
    record {
      width = names_count w;
      short =
          omega (arith, length-append (header_text w) (flat_map (row_text w) rows), header_length w m, rows_short w m rows h);
      reads = λ s. (s, lines_file w (columns w) sure rows (bare_columns w (omega arith)) bare_sure h);
      table = (header_lawful w l m, rows_lawful w m rows h);
      same = rows_back w m rows h;
    }
