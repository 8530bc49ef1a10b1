-- Bytes are the bytes of their entries, and what stands behind those; and entries that are written are read back.
use Rattle.std.proofs.Common.{◌≡◌, ℕ, zero, suc, ◌+◌, ◌<◌, ◌≤◌, ◌^◌, List, [], ◌∷◌, ◌++◌, length, take, drop, get_or, refl, sym, ◌∙◌, ap, Bool, true, false, arith, append_assoc, length-append, subst}
use Rattle.std.specs.Prelude.{All}
use Rattle.std.specs.Int.{w32, from_le_bytes, to_le_bytes}
use Rattle.std.proofs.Math.Seq.{drop-append_seam, take-append_seam}
use Rattle.std.proofs.lemmas.Bool.{le-leb, lt-ltb}
use Rattle.std.proofs.lemmas.List.{length-drop, length-take-le, take-append-drop}
use Rattle.std.proofs.lemmas.List.Elements.{All-cons, All-head, All-nil, All-tail}
use Rattle.std.proofs.lemmas.Nat.{from_le_bytes-to_le_bytes_4, le_bytes_4}
use Rattle.xn_model.specs.Root.{word_at}
use Rattle.treefs_format.specs.Records.{Entry, begins_record, entries_behind, entries_of, entry_bytes, entry_length, first_entry, joined, name_length, total_length}
use Rattle.treefs_format.proofs.Entries.{entries_first, name_fits, name_some}

abbrev pub IsByte : ℕ → Type 0
IsByte b = b < 256

-- an entry that is read as it is written
pub record Fits (e : Entry) : Type 0 where
  pub number : e.number < 2 ^ 32
  pub name : 0 < length e.name

-- the first entry of bytes

pub first_length : (bytes : List ℕ) → begins_record bytes ≡ true → entry_length (first_entry bytes) ≡ 5 + name_length bytes
first_length bytes e = ap (λ n. 5 + n) (length-take-le (name_length bytes) (drop 5 bytes) (let whole = length-drop 5 bytes in let fits = name_fits bytes e in omega arith))

word_below : (a b c d : ℕ) → a < 256 → b < 256 → c < 256 → d < 256 → from_le_bytes w32 (a ∷ b ∷ c ∷ d ∷ []) < 2 ^ 32
word_below a b c d ha hb hc hd = omega arith

pub first_fits : (bytes : List ℕ) → All IsByte bytes → begins_record bytes ≡ true → Fits (first_entry bytes)
unfolding word_at
first_fits (a ∷ b ∷ c ∷ d ∷ n ∷ rest) range e = record {
  number = word_below a b c d (range 0 0 (omega arith)) (range 1 0 (omega arith)) (range 2 0 (omega arith)) (range 3 0 (omega arith));
  name = let long = first_length (a ∷ b ∷ c ∷ d ∷ n ∷ rest) e in let some = name_some (a ∷ b ∷ c ∷ d ∷ n ∷ rest) e in omega arith;
}
first_fits (a ∷ b ∷ c ∷ d ∷ []) range e = cc
first_fits (a ∷ b ∷ c ∷ []) range e = cc
first_fits (a ∷ b ∷ []) range e = cc
first_fits (a ∷ []) range e = cc
first_fits [] range e = cc

pub first_bytes : (bytes : List ℕ) → All IsByte bytes → begins_record bytes ≡ true → bytes ≡ entry_bytes (first_entry bytes) ++ drop (5 + name_length bytes) bytes
unfolding word_at
first_bytes (a ∷ b ∷ c ∷ d ∷ n ∷ rest) range e =
    let bytes = a ∷ b ∷ c ∷ d ∷ n ∷ rest in
    let fits = name_fits bytes e in
    let long : length (take n rest) ≡ n = length-take-le n rest (omega arith) in
    let number : to_le_bytes w32 (word_at bytes 0) ≡ a ∷ b ∷ c ∷ d ∷ [] = le_bytes_4 (a ∷ b ∷ c ∷ d ∷ []) (word_at bytes 0) refl (in_range a b c d (range 0 0 (omega arith)) (range 1 0 (omega arith)) (range 2 0 (omega arith)) (range 3 0 (omega arith))) refl in
    let past : 5 + n ≡ suc (suc (suc (suc (suc n)))) = omega arith in
    sym (ap (λ front. (front ++ (length (take n rest) ∷ take n rest)) ++ drop (5 + n) bytes) number
    ∙ (ap (λ k. a ∷ b ∷ c ∷ d ∷ k ∷ (take n rest ++ drop (5 + n) bytes)) long
    ∙ (ap (λ k. a ∷ b ∷ c ∷ d ∷ n ∷ (take n rest ++ drop k bytes)) past
    ∙ ap (λ l. a ∷ b ∷ c ∷ d ∷ n ∷ l) (take-append-drop n rest))))
  where
    in_range : (a b c d : ℕ) → a < 256 → b < 256 → c < 256 → d < 256 → (i : ℕ) → get_or (a ∷ b ∷ c ∷ d ∷ []) i 0 < 256
    in_range a b c d ha hb hc hd zero = ha
    in_range a b c d ha hb hc hd (suc zero) = hb
    in_range a b c d ha hb hc hd (suc (suc zero)) = hc
    in_range a b c d ha hb hc hd (suc (suc (suc zero))) = hd
    in_range a b c d ha hb hc hd (suc (suc (suc (suc i)))) = omega arith
first_bytes (a ∷ b ∷ c ∷ d ∷ []) range e = cc
first_bytes (a ∷ b ∷ c ∷ []) range e = cc
first_bytes (a ∷ b ∷ []) range e = cc
first_bytes (a ∷ []) range e = cc
first_bytes [] range e = cc

-- all entries of bytes

pub end_within : (skipped : ℕ) (bytes : List ℕ) → skipped ≤ length bytes → skipped + total_length (entries_behind skipped bytes) ≤ length bytes
end_within zero [] h = omega arith
end_within (suc n) [] h = absurd (omega arith)
end_within (suc n) (x ∷ bytes) h = let rest = end_within n bytes (omega arith) in omega arith
end_within zero (x ∷ bytes) h = by (begins_record (x ∷ bytes)) refl (end_within (4 + name_length (x ∷ bytes)) bytes)
  where
    by : (b : Bool) → begins_record (x ∷ bytes) ≡ b →
        (4 + name_length (x ∷ bytes) ≤ length bytes → 4 + name_length (x ∷ bytes) + total_length (entries_behind (4 + name_length (x ∷ bytes)) bytes) ≤ length bytes) →
        zero + total_length (entries_behind zero (x ∷ bytes)) ≤ length (x ∷ bytes)
    by true e rest =
        let fits = name_fits (x ∷ bytes) e in
        let more = rest (omega arith) in
        let long = first_length (x ∷ bytes) e in
        let first = first_entry (x ∷ bytes) in
        let es = entries_behind (4 + name_length (x ∷ bytes)) bytes in
        let is : entries_behind zero (x ∷ bytes) ≡ first ∷ es = rw e refl in
        subst (λ l. zero + total_length l ≤ length (x ∷ bytes)) (sym is) (omega arith)
    by false e rest =
        let is : entries_behind zero (x ∷ bytes) ≡ [] = rw e refl in
        subst (λ l. zero + total_length l ≤ length (x ∷ bytes)) (sym is) (omega arith)

pub record Parsed (bytes : List ℕ) (skipped : ℕ) : Type 0 where
  pub whole : drop skipped bytes ≡ joined (entries_behind skipped bytes) ++ drop (skipped + total_length (entries_behind skipped bytes)) bytes
  pub ends : entries_of (drop (skipped + total_length (entries_behind skipped bytes)) bytes) ≡ []
  pub fits : All Fits (entries_behind skipped bytes)

pub parsed : (skipped : ℕ) (bytes : List ℕ) → All IsByte bytes → skipped ≤ length bytes → Parsed bytes skipped
unfolding entries_of
parsed zero [] range h = record { whole = refl; ends = refl; fits = All-nil Fits }
parsed (suc n) [] range h = absurd (omega arith)
parsed (suc n) (x ∷ bytes) range h =
    let rest = parsed n bytes (All-tail IsByte x bytes range) (omega arith) in
    let more : suc n + total_length (entries_behind n bytes) ≡ suc (n + total_length (entries_behind n bytes)) = omega arith in
    record {
      whole = rest.whole ∙ ap (λ k. joined (entries_behind n bytes) ++ drop k (x ∷ bytes)) (sym more);
      ends = ap (λ k. entries_behind 0 (drop k (x ∷ bytes))) more ∙ rest.ends;
      fits = rest.fits;
    }
parsed zero (x ∷ bytes) range h = by (begins_record (x ∷ bytes)) refl (parsed (4 + name_length (x ∷ bytes)) bytes (All-tail IsByte x bytes range))
  where
    by : (b : Bool) → begins_record (x ∷ bytes) ≡ b → (4 + name_length (x ∷ bytes) ≤ length bytes → Parsed bytes (4 + name_length (x ∷ bytes))) → Parsed (x ∷ bytes) zero
    by true e parse =
        let all = x ∷ bytes in
        let n = name_length all in
        let fits = name_fits all e in
        let rest = parse (omega arith) in
        let es = entries_behind (4 + n) bytes in
        let first = first_entry all in
        let one : 5 + n ≡ suc (4 + n) = omega arith in
        let long : entry_length first ≡ 5 + n = first_length all e in
        let past : zero + total_length (first ∷ es) ≡ suc (4 + n + total_length es) = omega arith in
        let is : entries_behind zero all ≡ first ∷ es = rw e refl in
        let goal_whole = λ (l : List Entry). all ≡ joined l ++ drop (zero + total_length l) all in
        let goal_ends = λ (l : List Entry). entries_behind 0 (drop (zero + total_length l) all) ≡ [] in
        record {
          whole = subst goal_whole (sym is)
              (first_bytes all range e
              ∙ (ap (λ k. entry_bytes first ++ drop k all) one
              ∙ (ap (λ l. entry_bytes first ++ l) rest.whole
              ∙ (sym (append_assoc (entry_bytes first) (joined es) (drop (4 + n + total_length es) bytes))
              ∙ ap (λ k. (entry_bytes first ++ joined es) ++ drop k all) (sym past)))));
          ends = subst goal_ends (sym is) (ap (λ k. entries_behind 0 (drop k all)) past ∙ rest.ends);
          fits = subst (λ l. All Fits l) (sym is) (All-cons Fits first es (first_fits all range e) rest.fits);
        }
    by false e parse =
        let all = x ∷ bytes in
        let is : entries_behind zero all ≡ [] = rw e refl in
        let goal_whole = λ (l : List Entry). all ≡ joined l ++ drop (zero + total_length l) all in
        let goal_ends = λ (l : List Entry). entries_behind 0 (drop (zero + total_length l) all) ≡ [] in
        record {
          whole = subst goal_whole (sym is) refl;
          ends = subst goal_ends (sym is) is;
          fits = subst (λ l. All Fits l) (sym is) (All-nil Fits);
        }

-- what is written is read back

pub length-entry_bytes : (e : Entry) → length (entry_bytes e) ≡ entry_length e
length-entry_bytes e = omega arith

pub length-joined : (es : List Entry) → length (joined es) ≡ total_length es
length-joined [] = refl
length-joined (e ∷ es) = length-append (entry_bytes e) (joined es) ∙ (let one = length-entry_bytes e in let rest = length-joined es in omega arith)

pub first_read : (e : Entry) (rest : List ℕ) → Fits e → entries_of (entry_bytes e ++ rest) ≡ e ∷ entries_of rest
unfolding word_at
first_read e rest fits =
    let bytes = entry_bytes e ++ rest in
    let n = length e.name in
    let long : length bytes ≡ 5 + n + length rest = (let both = length-append e.name rest in omega arith) in
    let begins : begins_record bytes ≡ true = cc (lt-ltb 0 n fits.name, le-leb (5 + n) (length bytes) (omega arith)) in
    let past : 5 + n ≡ suc (suc (suc (suc (suc n)))) = omega arith in
    let number : (first_entry bytes).number ≡ e.number = from_le_bytes-to_le_bytes_4 e.number fits.number in
    let name : (first_entry bytes).name ≡ e.name = take-append_seam e.name rest in
    let same : first_entry bytes ≡ e = λ i. record { number = number i; name = name i } in
    let behind : drop (5 + n) bytes ≡ rest = ap (λ k. drop k bytes) past ∙ drop-append_seam e.name rest in
    entries_first bytes begins ∙ (ap (λ f. f ∷ entries_of (drop (5 + n) bytes)) same ∙ ap (λ l. e ∷ entries_of l) behind)

pub joined_read : (es : List Entry) (rest : List ℕ) → All Fits es → entries_of (joined es ++ rest) ≡ es ++ entries_of rest
joined_read [] rest fits = refl
joined_read (e ∷ es) rest fits =
    ap entries_of (append_assoc (entry_bytes e) (joined es) rest)
    ∙ (first_read e (joined es ++ rest) (All-head Fits e es fits) ∙ ap (λ l. e ∷ l) (joined_read es rest (All-tail Fits e es fits)))
