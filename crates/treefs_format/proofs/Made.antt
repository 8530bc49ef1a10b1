-- Buckets whose records are made, numbered or written anew.
use Rattle.std.proofs.Common.{◌≡◌, ℕ, zero, suc, ◌+◌, ◌-◌, ◌<◌, ◌≤◌, ◌^◌, ◌⊎◌, Bool, true, false, cond, ◌&&◌, List, [], ◌∷◌, ◌++◌, length, take, drop, get_or, refl, sym, ◌∙◌, ap, arith, inl, inr, append_assoc, subst}
use Rattle.std.specs.Prelude.{All, Contains, IsTrue, filter, map, nat_le, nat_lt, ◌==◌, if◌then◌else◌}
use Rattle.std.specs.Int.{w32, to_le_bytes}
use Rattle.std.proofs.Math.Seq.{drop-append_seam}
use Rattle.std.proofs.lemmas.Bool.{and_parts, and_from, eq-eqb, eqb-true, ne_eqb}
use Rattle.std.proofs.lemmas.Grind.{flat_map-append}
use Rattle.std.proofs.lemmas.List.{append-nil, drop-drop, drop_at, length-append, length-replicate, take_at}
use Rattle.std.proofs.lemmas.List.Elements.{All-append, All-cons, All-filter, All-head, All-nil, All-tail}
use Rattle.xn_model.specs.BareDisks.{zeros}
use Rattle.xn_model.specs.Lists.{blank, put}
use Rattle.xn_model.proofs.ForCallers.{Contains-cons, Contains-none}
use Rattle.treefs_format.specs.Buckets.{is_whole, live_entries, made, renumbered, rewritten, with_number}
use Rattle.treefs_format.specs.Records.{Entry, Record, end_of, entries_of, entry_bytes, entry_length, is_live, joined, placed, records_of, total_length}
use Rattle.treefs_format.proofs.Entries.{entries_none}
use Rattle.treefs_format.proofs.Parsed.{Fits, IsByte, joined_read, length-joined, parsed}

-- Bytes of zeros

pub blank_at : (ns : List ℕ) (i : ℕ) → IsTrue (blank ns) → get_or ns i 0 ≡ 0
blank_at [] i h = refl
blank_at (n ∷ ns) zero h = eqb-true n 0 (and_parts (n == 0) (blank ns) h).0
blank_at (n ∷ ns) (suc i) h = blank_at ns i (and_parts (n == 0) (blank ns) h).1

pub blank_drop : (n : ℕ) (ns : List ℕ) → IsTrue (blank ns) → IsTrue (blank (drop n ns))
blank_drop zero ns h = h
blank_drop (suc n) [] h = h
blank_drop (suc n) (x ∷ ns) h = blank_drop n ns (and_parts (x == 0) (blank ns) h).1

blank_append : (xs ys : List ℕ) → IsTrue (blank xs) → IsTrue (blank ys) → IsTrue (blank (xs ++ ys))
blank_append [] ys h k = k
blank_append (x ∷ xs) ys h k = let parts = and_parts (x == 0) (blank xs) h in and_from (x == 0) (blank (xs ++ ys)) parts.0 (blank_append xs ys parts.1 k)

blank_zeros : (n : ℕ) → IsTrue (blank (zeros n))
blank_zeros zero = refl
blank_zeros (suc n) = blank_zeros n

-- no length at byte 4: no record
pub no_length : (bytes : List ℕ) → get_or bytes 4 0 ≡ 0 → entries_of bytes ≡ []
no_length bytes h = entries_none bytes (ap (λ k. nat_lt 0 k && nat_le (5 + k) (length bytes)) h)

pub blank_none : (bytes : List ℕ) → IsTrue (blank bytes) → entries_of bytes ≡ []
blank_none bytes h = no_length bytes (blank_at bytes 4 h)

pub zeros_none : (n : ℕ) → entries_of (zeros n) ≡ []
zeros_none n = blank_none (zeros n) (blank_zeros n)

-- Bytes with these entries, and others behind them

pub record IsBucket (bytes : List ℕ) (es : List Entry) (rest : List ℕ) : Type 0 where
  pub whole : bytes ≡ joined es ++ rest
  pub fits : All Fits es
  pub ends : entries_of rest ≡ []

pub has_entries : (bytes : List ℕ) (es : List Entry) (rest : List ℕ) → IsBucket bytes es rest → entries_of bytes ≡ es
has_entries bytes es rest b = ap entries_of b.whole ∙ (joined_read es rest b.fits ∙ (ap (λ l. es ++ l) b.ends ∙ append-nil es))

has_rest : (bytes : List ℕ) (es : List Entry) (rest : List ℕ) → IsBucket bytes es rest → drop (end_of bytes) bytes ≡ rest
has_rest bytes es rest b =
    let long : total_length (entries_of bytes) ≡ length (joined es) = ap total_length (has_entries bytes es rest b) ∙ sym (length-joined es) in
    ap (λ k. drop k bytes) long ∙ (ap (drop (length (joined es))) b.whole ∙ drop-append_seam (joined es) rest)

whole_rest : (bytes : List ℕ) (es : List Entry) (rest : List ℕ) → IsBucket bytes es rest → IsTrue (blank rest) → IsTrue (is_whole bytes)
whole_rest bytes es rest b h = subst (λ l. IsTrue (blank l)) (sym (has_rest bytes es rest b)) h

pub bucket_of : (bytes : List ℕ) → All IsByte bytes → IsBucket bytes (entries_of bytes) (drop (end_of bytes) bytes)
unfolding entries_of
bucket_of bytes range =
    let p = parsed 0 bytes range (omega arith) in
    let z : 0 + end_of bytes ≡ end_of bytes = omega arith in
    record {
      whole = p.whole ∙ ap (λ k. joined (entries_of bytes) ++ drop k bytes) z;
      fits = p.fits;
      ends = ap (λ k. entries_of (drop k bytes)) (sym z) ∙ p.ends;
    }

joined_append : (a b : List Entry) → joined (a ++ b) ≡ joined a ++ joined b
joined_append a b = flat_map-append entry_bytes a b

-- A record is made

made_bucket : (bytes : List ℕ) (e : Entry) → All IsByte bytes → Fits e → IsTrue (is_whole bytes) → IsBucket (made bytes e) (entries_of bytes ++ e ∷ []) (drop (end_of bytes + length (entry_bytes e)) bytes)
made_bucket bytes e range fits clear =
    let es = entries_of bytes in
    let b = bucket_of bytes range in
    let rest = drop (end_of bytes + length (entry_bytes e)) bytes in
    let front : take (end_of bytes) bytes ≡ joined es = ap (take (end_of bytes)) b.whole ∙ take_at (joined es) (drop (end_of bytes) bytes) (end_of bytes) (length-joined es) in
    record {
      whole = ap (λ l. (l ++ entry_bytes e) ++ rest) front ∙ ap (λ l. l ++ rest) (ap (λ l. joined es ++ l) (sym (append-nil (entry_bytes e))) ∙ sym (joined_append es (e ∷ [])));
      fits = All-append Fits es (e ∷ []) b.fits (All-cons Fits e [] fits (All-nil Fits));
      ends = blank_none rest (made_rest bytes (length (entry_bytes e)) clear);
    }
  where
    made_rest : (bytes : List ℕ) (n : ℕ) → IsTrue (is_whole bytes) → IsTrue (blank (drop (end_of bytes + n) bytes))
    made_rest bytes n clear = subst (λ l. IsTrue (blank l)) (drop-drop n (end_of bytes) bytes) (blank_drop n (drop (end_of bytes) bytes) clear)

pub made_read : (bytes : List ℕ) (e : Entry) → All IsByte bytes → Fits e → IsTrue (is_whole bytes) → entries_of (made bytes e) ≡ entries_of bytes ++ e ∷ []
made_read bytes e range fits clear = has_entries (made bytes e) _ _ (made_bucket bytes e range fits clear)

pub made_whole : (bytes : List ℕ) (e : Entry) → All IsByte bytes → Fits e → IsTrue (is_whole bytes) → IsTrue (is_whole (made bytes e))
made_whole bytes e range fits clear =
    whole_rest (made bytes e) _ _ (made_bucket bytes e range fits clear)
    (subst (λ l. IsTrue (blank l)) (drop-drop (length (entry_bytes e)) (end_of bytes) bytes) (blank_drop (length (entry_bytes e)) (drop (end_of bytes) bytes) clear))

-- A number is set

pub record Split (es : List Entry) (at : ℕ) (r : Record) : Type 0 where
  pub before : List Entry
  pub behind : List Entry
  pub all : es ≡ before ++ r.entry ∷ behind
  pub there : r.offset ≡ at + total_length before

pub split_at : (es : List Entry) (at : ℕ) (r : Record) → Contains (placed at es) r → Split es at r
split_at [] at r h = absurd (Contains-none r h)
split_at (e ∷ es) at r h = elim (Contains-cons (record { offset = at; entry = e }) (placed (at + entry_length e) es) r h) [
  | inl same ↦ let first : at ≡ r.offset = ap (λ (q : Record). q.offset) same in record { before = []; behind = es; all = ap (λ (q : Record). q.entry ∷ es) same; there = omega arith }
  | inr later ↦
      let rest = split_at es (at + entry_length e) r later in
      let at_rest = rest.there in
      record { before = e ∷ rest.before; behind = rest.behind; all = ap (λ l. e ∷ l) rest.all; there = omega arith }
]

abbrev pub numbered : Entry → ℕ → Entry
numbered e number = record { number = number; name = e.name }

-- those behind a place are as they were
renumbered_past : (place number at : ℕ) (es : List Entry) → place < at → map (renumbered place number) (placed at es) ≡ placed at es
renumbered_past place number at [] lt = refl
renumbered_past place number at (e ∷ es) lt =
    let first : Record = record { offset = at; entry = e } in
    let rest = placed (at + entry_length e) es in
    ap (λ b. (if b then record { offset = at; entry = numbered e number } else first) ∷ map (renumbered place number) rest) (ne_eqb at place (λ s. absurd (omega (arith, s))))
    ∙ ap (λ l. first ∷ l) (renumbered_past place number (at + entry_length e) es (omega arith))

pub renumbered_at : (a b : List Entry) (e : Entry) (place number at : ℕ) → place ≡ at + total_length a →
    map (renumbered place number) (placed at (a ++ e ∷ b)) ≡ placed at (a ++ numbered e number ∷ b)
renumbered_at [] b e place number at is =
    let first : Record = record { offset = at; entry = e } in
    let rest = placed (at + entry_length e) b in
    ap (λ t. (if t then record { offset = at; entry = numbered e number } else first) ∷ map (renumbered place number) rest) (eq-eqb at place (omega arith))
    ∙ ap (λ l. record { offset = at; entry = numbered e number } ∷ l) (renumbered_past place number (at + entry_length e) b (omega arith))
renumbered_at (x ∷ a) b e place number at is =
    let first : Record = record { offset = at; entry = x } in
    let rest = placed (at + entry_length x) (a ++ e ∷ b) in
    ap (λ t. (if t then record { offset = at; entry = numbered x number } else first) ∷ map (renumbered place number) rest) (ne_eqb at place (λ s. absurd (omega (arith, s))))
    ∙ ap (λ l. first ∷ l) (renumbered_at a b e place number (at + entry_length x) (omega arith))

-- bytes written behind others
put_behind : (xs ys bs : List ℕ) (n : ℕ) → length xs ≡ n → put (xs ++ ys) n bs ≡ xs ++ put ys 0 bs
put_behind xs ys bs n is =
    let z : 0 + length bs ≡ length bs = omega arith in
    ap (λ l. (l ++ bs) ++ drop (n + length bs) (xs ++ ys)) (take_at xs ys n is)
    ∙ (ap (λ l. (xs ++ bs) ++ l) (sym (drop-drop (length bs) n (xs ++ ys)) ∙ (ap (drop (length bs)) (drop_at xs ys n is) ∙ ap (λ k. drop k ys) (sym z)))
    ∙ append_assoc xs bs (drop (0 + length bs) ys))

parts : (a b : List Entry) (e : Entry) (rest : List ℕ) → joined (a ++ e ∷ b) ++ rest ≡ joined a ++ (entry_bytes e ++ (joined b ++ rest))
parts a b e rest =
    ap (λ l. l ++ rest) (joined_append a (e ∷ b)) ∙ (append_assoc (joined a) (entry_bytes e ++ joined b) rest ∙ ap (λ l. joined a ++ l) (append_assoc (entry_bytes e) (joined b) rest))

number_put : (a b : List Entry) (e : Entry) (rest : List ℕ) (number : ℕ) → put (joined (a ++ e ∷ b) ++ rest) (total_length a) (to_le_bytes w32 number) ≡ joined (a ++ numbered e number ∷ b) ++ rest
number_put a b e rest number =
    ap (λ l. put l (total_length a) (to_le_bytes w32 number)) (parts a b e rest)
    ∙ (put_behind (joined a) (entry_bytes e ++ (joined b ++ rest)) (to_le_bytes w32 number) (total_length a) (length-joined a) ∙ sym (parts a b (numbered e number) rest))

record_put : (a b : List Entry) (e : Entry) (rest : List ℕ) (number : ℕ) → put (joined (a ++ e ∷ b) ++ rest) (total_length a) (entry_bytes (numbered e number)) ≡ joined (a ++ numbered e number ∷ b) ++ rest
record_put a b e rest number =
    let new = entry_bytes (numbered e number) in
    let more = joined b ++ rest in
    let z : 0 + length new ≡ length (entry_bytes e) = omega arith in
    ap (λ l. put l (total_length a) new) (parts a b e rest)
    ∙ (put_behind (joined a) (entry_bytes e ++ more) new (total_length a) (length-joined a)
    ∙ (ap (λ k. joined a ++ (new ++ drop k (entry_bytes e ++ more))) z
    ∙ (ap (λ l. joined a ++ (new ++ l)) (drop-append_seam (entry_bytes e) more) ∙ sym (parts a b (numbered e number) rest))))

module _ (bytes : List ℕ) (r : Record) (number : ℕ) (range : All IsByte bytes) (there : Contains (records_of bytes) r) where
  rest : List ℕ
  rest = drop (end_of bytes) bytes

  split : Split (entries_of bytes) 0 r
  split = split_at (entries_of bytes) 0 r there

  abbrev after : List Entry
  after = split.before ++ numbered r.entry number ∷ split.behind

  is_there : r.offset ≡ total_length split.before
  is_there = let h = split.there in omega arith

  is_bytes : bytes ≡ joined (split.before ++ r.entry ∷ split.behind) ++ drop (end_of bytes) bytes
  is_bytes = (bucket_of bytes range).whole ∙ ap (λ l. joined l ++ drop (end_of bytes) bytes) split.all

  number_bytes : with_number bytes r.offset number ≡ joined after ++ drop (end_of bytes) bytes
  number_bytes =
      ap (λ k. put bytes k (to_le_bytes w32 number)) is_there
      ∙ (ap (λ l. put l (total_length split.before) (to_le_bytes w32 number)) is_bytes ∙ number_put split.before split.behind r.entry (drop (end_of bytes) bytes) number)

  pub made_anew : put bytes r.offset (entry_bytes (record { number = number; name = r.entry.name })) ≡ with_number bytes r.offset number
  made_anew =
      ap (λ k. put bytes k (entry_bytes (numbered r.entry number))) is_there
      ∙ (ap (λ l. put l (total_length split.before) (entry_bytes (numbered r.entry number))) is_bytes
      ∙ (record_put split.before split.behind r.entry (drop (end_of bytes) bytes) number ∙ sym number_bytes))

  renumbered_fits : number < 2 ^ 32 → All Fits after
  renumbered_fits few = replaced split.before split.behind (subst (λ l. All Fits l) split.all (bucket_of bytes range).fits)
    where
      replaced : (a b : List Entry) → All Fits (a ++ r.entry ∷ b) → All Fits (a ++ numbered r.entry number ∷ b)
      replaced [] b h = All-cons Fits (numbered r.entry number) b (record { number = few; name = (All-head Fits r.entry b h).name }) (All-tail Fits r.entry b h)
      replaced (x ∷ a) b h = All-cons Fits x (a ++ numbered r.entry number ∷ b) (All-head Fits x (a ++ r.entry ∷ b) h) (replaced a b (All-tail Fits x (a ++ r.entry ∷ b) h))

  renumbered_bucket : number < 2 ^ 32 → IsBucket (with_number bytes r.offset number) after (drop (end_of bytes) bytes)
  renumbered_bucket few = record { whole = number_bytes; fits = renumbered_fits few; ends = (bucket_of bytes range).ends }

  pub renumbered_read : number < 2 ^ 32 → records_of (with_number bytes r.offset number) ≡ map (renumbered r.offset number) (records_of bytes)
  renumbered_read few =
      ap (placed 0) (has_entries (with_number bytes r.offset number) _ _ (renumbered_bucket few))
      ∙ sym (ap (λ l. map (renumbered r.offset number) (placed 0 l)) split.all ∙ renumbered_at split.before split.behind r.entry r.offset number 0 split.there)

  pub renumbered_whole : number < 2 ^ 32 → IsTrue (is_whole bytes) → IsTrue (is_whole (with_number bytes r.offset number))
  renumbered_whole few clear = whole_rest (with_number bytes r.offset number) _ _ (renumbered_bucket few) clear

-- A bucket is rewritten

pub live_length : (es : List Entry) → (total_length (filter is_live es) ≡ total_length es) ⊎ (total_length (filter is_live es) + 5 ≤ total_length es)
live_length [] = inl refl
live_length (e ∷ es) = by (is_live e) refl (live_length es)
  where
    by : (b : Bool) → is_live e ≡ b → (total_length (filter is_live es) ≡ total_length es) ⊎ (total_length (filter is_live es) + 5 ≤ total_length es) →
        (total_length (filter is_live (e ∷ es)) ≡ total_length (e ∷ es)) ⊎ (total_length (filter is_live (e ∷ es)) + 5 ≤ total_length (e ∷ es))
    by true h rest = let P = λ (l : List Entry). (total_length l ≡ total_length (e ∷ es)) ⊎ (total_length l + 5 ≤ total_length (e ∷ es)) in
        subst P (sym (ap (λ b. cond b (e ∷ filter is_live es) (filter is_live es)) h)) (elim rest [ inl same ↦ inl (omega arith) | inr less ↦ inr (omega arith) ])
    by false h rest = let P = λ (l : List Entry). (total_length l ≡ total_length (e ∷ es)) ⊎ (total_length l + 5 ≤ total_length (e ∷ es)) in
        subst P (sym (ap (λ b. cond b (e ∷ filter is_live es) (filter is_live es)) h)) (elim rest [ inl same ↦ inr (omega arith) | inr less ↦ inr (omega arith) ])

pub live_within : (es : List Entry) → total_length (filter is_live es) ≤ total_length es
live_within es = elim (live_length es) [ inl same ↦ omega arith | inr less ↦ omega arith ]

pub length-rewritten : (bytes : List ℕ) → length (rewritten bytes) ≡ end_of bytes
length-rewritten bytes =
    let live = live_entries bytes in
    let both = length-append (joined live) (zeros (end_of bytes - total_length live)) in
    let front = length-joined live in
    let back : length (zeros (end_of bytes - total_length live)) ≡ end_of bytes - total_length live = length-replicate (end_of bytes - total_length live) 0 in
    let within = live_within (entries_of bytes) in
    omega arith

-- zeros, of which there are none or at least 5, and then bytes that begin no record
zeros_first : (n : ℕ) (rest : List ℕ) → (n ≡ 0) ⊎ (5 ≤ n) → entries_of rest ≡ [] → entries_of (zeros n ++ rest) ≡ []
zeros_first zero rest h ends = ends
zeros_first (suc (suc (suc (suc (suc n))))) rest h ends = no_length (zeros (suc (suc (suc (suc (suc n))))) ++ rest) refl
zeros_first (suc zero) rest h ends = elim h [ inl e ↦ absurd (omega arith) | inr e ↦ absurd (omega arith) ]
zeros_first (suc (suc zero)) rest h ends = elim h [ inl e ↦ absurd (omega arith) | inr e ↦ absurd (omega arith) ]
zeros_first (suc (suc (suc zero))) rest h ends = elim h [ inl e ↦ absurd (omega arith) | inr e ↦ absurd (omega arith) ]
zeros_first (suc (suc (suc (suc zero)))) rest h ends = elim h [ inl e ↦ absurd (omega arith) | inr e ↦ absurd (omega arith) ]

module _ (bytes : List ℕ) (range : All IsByte bytes) where
  rewritten_bucket : IsBucket (put bytes 0 (rewritten bytes)) (live_entries bytes) (zeros (end_of bytes - total_length (live_entries bytes)) ++ drop (end_of bytes) bytes)
  rewritten_bucket =
      let live = live_entries bytes in
      let more = zeros (end_of bytes - total_length live) in
      let z : 0 + length (rewritten bytes) ≡ end_of bytes = (let long = length-rewritten bytes in omega arith) in
      let b = bucket_of bytes range in
      record {
        whole = ap (λ k. rewritten bytes ++ drop k bytes) z ∙ append_assoc (joined live) more (drop (end_of bytes) bytes);
        fits = All-filter is_live Fits (entries_of bytes) b.fits;
        ends = zeros_first (end_of bytes - total_length live) (drop (end_of bytes) bytes) (elim (live_length (entries_of bytes)) [ inl same ↦ inl (omega arith) | inr less ↦ inr (omega arith) ]) b.ends;
      }

  pub rewritten_read : entries_of (put bytes 0 (rewritten bytes)) ≡ live_entries bytes
  rewritten_read = has_entries (put bytes 0 (rewritten bytes)) _ _ rewritten_bucket

  pub rewritten_whole : IsTrue (is_whole bytes) → IsTrue (is_whole (put bytes 0 (rewritten bytes)))
  rewritten_whole clear =
      whole_rest (put bytes 0 (rewritten bytes)) _ _ rewritten_bucket
      (blank_append (zeros (end_of bytes - total_length (live_entries bytes))) (drop (end_of bytes) bytes) (blank_zeros (end_of bytes - total_length (live_entries bytes))) clear)

-- the entries with a number set: one of them is another
pub record Renumbered (bytes : List ℕ) (r : Record) (number : ℕ) : Type 0 where
  pub before : List Entry
  pub behind : List Entry
  pub old : entries_of bytes ≡ before ++ r.entry ∷ behind
  pub new : entries_of (with_number bytes r.offset number) ≡ before ++ numbered r.entry number ∷ behind

pub renumbered_entries : (bytes : List ℕ) (r : Record) (number : ℕ) → All IsByte bytes → Contains (records_of bytes) r → number < 2 ^ 32 → Renumbered bytes r number
renumbered_entries bytes r number range there few =
    let s = split bytes r number range there in
    record { before = s.before; behind = s.behind; old = s.all; new = has_entries (with_number bytes r.offset number) _ _ (renumbered_bucket bytes r number range there few) }
