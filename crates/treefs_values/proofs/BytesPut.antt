-- Bytes of a file, once some are put into one of its buckets.
use Rattle.std.proofs.Common.{◌≡◌, ◌≢◌, ◌⊎◌, ℕ, ◌+◌, ◌-◌, ◌/◌, ◌%◌, ◌<◌, ◌≤◌, Bool, true, false, ◌&&◌, List, [], ◌++◌, length, take, drop, get_or, Option, refl, sym, ◌∙◌, ap, inl, inr, arith, if◌then◌else◌, get_or-drop, get_or-take, length-append, length-drop, length-take-le, eq-eqb, ne_eqb, le-leb, lt-ltb, le-ltb}
use Rattle.std.specs.Prelude.{All, nat_le, nat_lt, slice_index, ◌==◌}
use Rattle.std.proofs.lemmas.Bool.{and_parts, cases_eq, cases_lt, leb-true, lt-leb}
use Rattle.std.proofs.lemmas.List.{get_or-append_right, get_or_append_left}
use Rattle.xn_model.specs.Lists.{put}
use Rattle.treefs_format.specs.Paths.{leaf_count}
use Rattle.treefs_model.specs.Reading.{bucket_of, byte_of, leaf_block, leaf_byte}
use Rattle.treefs_model.specs.Acts.{one_patch, patch_act}
use Rattle.treefs_lookup.specs.Buckets.{bucket_block, bucket_start}
use Rattle.treefs_lookup.specs.Bytes.{part_left}
use Rattle.treefs_edits.specs.Written.{written}
use Rattle.treefs_values.specs.Bytes.{bucket_at, byte_over, is_within, place_in_bucket}
use Rattle.treefs_values.specs.Volumes.{IsVolume}
use Rattle.treefs_values.specs.Ways.{block_numbered}
use Rattle.treefs_values.proofs.Alike.{in_leaf}
use Rattle.treefs_values.proofs.Putting.{IsPut, is_put}

-- Tests

pub inside : (first count p : ℕ) → first ≤ p → p < first + count → is_within first count p ≡ true
inside first count p low high = (λ j. le-leb first p low j && lt-ltb p (first + count) high j)

pub outside : (first count p : ℕ) → (p < first) ⊎ (first + count ≤ p) → is_within first count p ≡ false
outside first count p h = elim h [
  | inl below ↦ ap (λ b. b && nat_lt p (first + count)) (lt-leb first p below)
  | inr past ↦ ap (λ b. nat_le first p && b) (le-ltb p (first + count) past) ∙ both (nat_le first p)
]
  where
    both : (b : Bool) → (b && false) ≡ false
    both true = refl
    both false = refl

-- A list with others put into it

get_put : (m bs : List ℕ) (at i : ℕ) → at + length bs ≤ length m → get_or (put m at bs) i 0 ≡ byte_over at bs (λ q. get_or m q 0) i
get_put m bs at i fits = elim (cases_lt i at) [
  | inl below ↦
      get_or_append_left (take at m ++ bs) (drop (at + length bs) m) 0 i (let l = long in omega arith)
      ∙ (get_or_append_left (take at m) bs 0 i (let l = front in omega arith)
      ∙ (get_or-take at m i 0 below ∙ sym (ap (λ b. if b then slice_index bs (i - at) else get_or m i 0) (outside at (length bs) i (inl below)))))
  | inr past ↦ elim (cases_lt i (at + length bs)) [
    | inl within ↦
        get_or_append_left (take at m ++ bs) (drop (at + length bs) m) 0 i (let l = long in omega arith)
        ∙ (get_or-append_right (take at m) bs at i 0 front past
        ∙ sym (ap (λ b. if b then slice_index bs (i - at) else get_or m i 0) (inside at (length bs) i past within)))
    | inr behind ↦
        get_or-append_right (take at m ++ bs) (drop (at + length bs) m) (at + length bs) i 0 long behind
        ∙ (get_or-drop (at + length bs) m (i - (at + length bs)) 0
        ∙ (ap (λ q. get_or m q 0) (let same : at + length bs + (i - (at + length bs)) ≡ i = omega arith in same)
        ∙ sym (ap (λ b. if b then slice_index bs (i - at) else get_or m i 0) (outside at (length bs) i (inr behind)))))
  ]
]
  where
    front : length (take at m) ≡ at
    front = length-take-le at m (omega arith)

    long : length (take at m ++ bs) ≡ at + length bs
    long = length-append (take at m) bs ∙ ap (λ l. l + length bs) front

-- A byte of a file, by its bucket

of_leaf : (content : ℕ → List ℕ) (x q : ℕ) → leaf_byte content x q ≡ slice_index (if x == 0 then [] else content x) q
of_leaf content x q = elim (cases_eq x 0) [
  | inl z ↦ ap (λ t. if t then 0 else slice_index (content x) q) (eq-eqb x 0 z) ∙ sym (ap (λ t. slice_index (if t then [] else content x) q) (eq-eqb x 0 z))
  | inr some ↦ ap (λ t. if t then 0 else slice_index (content x) q) (ne_eqb x 0 some) ∙ sym (ap (λ t. slice_index (if t then [] else content x) q) (ne_eqb x 0 some))
]

byte_in : (content : ℕ → List ℕ) (c p : ℕ) → byte_of content c p ≡ slice_index (bucket_of content c (bucket_at p)) (place_in_bucket p)
byte_in content c p = by (cases_lt p 384)
  where
    by : (p < 384) ⊎ (384 ≤ p) → byte_of content c p ≡ slice_index (bucket_of content c (bucket_at p)) (place_in_bucket p)
    by (inl low) =
        ap (λ t. if t then slice_index (content c) (128 + p) else leaf_byte content (leaf_block content c (p / 512)) (p % 512)) (lt-ltb p 384 low)
        ∙ (sym (get_or-drop 128 (content c) p 0)
        ∙ sym (ap (λ t. slice_index (bucket_of content c (if t then 0 else p / 512 + 1)) (if t then p else p % 512)) (lt-ltb p 384 low)))
    by (inr high) =
        let k : ℕ = p / 512 + 1 in
        let some : k ≢ 0 = λ z. absurd (omega (arith, z)) in
        let leaf : k - 1 ≡ p / 512 = omega arith in
        ap (λ t. if t then slice_index (content c) (128 + p) else leaf_byte content (leaf_block content c (p / 512)) (p % 512)) (le-ltb p 384 high)
        ∙ (of_leaf content (leaf_block content c (p / 512)) (p % 512)
        ∙ (sym (ap (λ m. slice_index m (p % 512)) (in_leaf content c k some ∙ ap (λ i. if leaf_block content c i == 0 then [] else content (leaf_block content c i)) leaf))
        ∙ sym (ap (λ t. slice_index (bucket_of content c (if t then 0 else p / 512 + 1)) (if t then p else p % 512)) (le-ltb p 384 high))))

-- The piece in its bucket

pub record IsLow (p : ℕ) : Type 0 where
  pub low : p < 384
  pub bucket : bucket_at p ≡ 0
  pub place : place_in_bucket p ≡ p

pub record IsHigh (p : ℕ) : Type 0 where
  pub high : 384 ≤ p
  pub bucket : bucket_at p ≡ p / 512 + 1
  pub place : place_in_bucket p ≡ p % 512

pub stands : (p : ℕ) → IsLow p ⊎ IsHigh p
stands p = elim (cases_lt p 384) [
  | inl low ↦ inl (record { low = low; bucket = ap (λ t. if t then 0 else p / 512 + 1) (lt-ltb p 384 low); place = ap (λ t. if t then p else p % 512) (lt-ltb p 384 low) })
  | inr high ↦ inr (record { high = high; bucket = ap (λ t. if t then 0 else p / 512 + 1) (le-ltb p 384 high); place = ap (λ t. if t then p else p % 512) (le-ltb p 384 high) })
]

-- so many bytes stand together
part : (first count : ℕ) → count ≤ part_left first → (IsLow first × (first + count ≤ 384)) ⊎ (IsHigh first × (first % 512 + count ≤ 512))
part first count fits = elim (stands first) [
  | inl a ↦ let low = a.low in let left : part_left first ≡ 384 - first = ap (λ t. if t then 384 - first else 512 - first % 512) (lt-ltb first 384 low) in inl (a, omega arith)
  | inr b ↦ let high = b.high in let left : part_left first ≡ 512 - first % 512 = ap (λ t. if t then 384 - first else 512 - first % 512) (le-ltb first 384 high) in inr (b, omega arith)
]

-- two tests that say the same
same_within : (first count p first' p' : ℕ) → (first ≤ p → (first' ≤ p') × (p' + first ≡ p + first')) → (p < first → p' < first') →
    is_within first' count p' ≡ is_within first count p
same_within first count p first' p' past below = elim (cases_lt p first) [
  | inl a ↦ outside first' count p' (inl (below a)) ∙ sym (outside first count p (inl a))
  | inr b ↦
      let h = past b in
      let low = h.0 in
      let sum = h.1 in
      elim (cases_lt p (first + count)) [
        | inl c ↦ inside first' count p' low (omega arith) ∙ sym (inside first count p b c)
        | inr c ↦ outside first' count p' (inr (omega arith)) ∙ sym (outside first count p (inr c))
      ]
]

pub piece : (first count p : ℕ) → count ≤ part_left first → bucket_at p ≡ bucket_at first →
    (is_within (place_in_bucket first) count (place_in_bucket p) ≡ is_within first count p) × (first ≤ p → place_in_bucket p - place_in_bucket first ≡ p - first)
piece first count p fits same = elim (stands first) [
  | inl a ↦ elim (stands p) [
    | inl b ↦ ((λ j. is_within (a.place j) count (b.place j)), λ le. (λ j. b.place j - a.place j))
    | inr b ↦ let one = a.bucket in let two = b.bucket in absurd (omega arith)
  ]
  | inr a ↦ elim (stands p) [
    | inl b ↦ let one = a.bucket in let two = b.bucket in absurd (omega arith)
    | inr b ↦
        let one = a.bucket in let two = b.bucket in let q = a.place in let r = b.place in
        (same_within first count p (place_in_bucket first) (place_in_bucket p) (λ le. (omega arith, omega arith)) (λ lt. omega arith), λ le. omega arith)
  ]
]

-- no byte of another bucket is in it
pub elsewhere : (first count p : ℕ) → count ≤ part_left first → bucket_at p ≢ bucket_at first → is_within first count p ≡ false
elsewhere first count p fits ne = elim (part first count fits) [
  | inl a ↦ elim (stands p) [
    | inl b ↦ absurd (ne (b.bucket ∙ sym a.0.bucket))
    | inr b ↦ let few = a.1 in let high = b.high in outside first count p (inr (omega arith))
  ]
  | inr a ↦ elim (stands p) [
    | inl b ↦ let high = a.0.high in let low = b.low in outside first count p (inl (omega arith))
    | inr b ↦ elim (cases_lt (p / 512) (first / 512)) [
      | inl below ↦ outside first count p (inl (omega arith))
      | inr past ↦ elim (cases_eq (p / 512) (first / 512)) [
        | inl e ↦ absurd (ne (b.bucket ∙ (ap (λ k. k + 1) e ∙ sym a.0.bucket)))
        | inr other ↦ let few = a.1 in let more : first / 512 + 1 ≤ p / 512 = strict (p / 512) (first / 512) past other in outside first count p (inr (omega arith))
      ]
    ]
  ]
]
  where
    strict : (a b : ℕ) → b ≤ a → a ≢ b → b + 1 ≤ a
    strict a b le ne' = elim (cases_lt b a) [ inl lt ↦ omega arith | inr ge ↦ absurd (ne' (omega arith)) ]

-- Bytes are put into a bucket of an inode

module _ (node inode top : ℕ) (type : ℕ → ℕ) (old : ℕ → List ℕ) (v : IsVolume node inode type old top)
    (n : ℕ) (number : n ≢ 0) (there : block_numbered old top n ≢ 0) (bytes : List ℕ) (range : All (λ b. b < 256) bytes) (some : 0 < length bytes) (first : ℕ)
    (few : bucket_at first ≤ leaf_count) (fits : length bytes ≤ part_left first) (block_there : bucket_block old (block_numbered old top n) (bucket_at first) ≢ 0) (behind : Option ℕ) where
  abbrev c : ℕ
  c = block_numbered old top n

  abbrev k : ℕ
  k = bucket_at first

  abbrev pub new : ℕ → List ℕ
  new = written (patch_act (bucket_block old c k) (one_patch (bucket_start k + place_in_bucket first) bytes) behind) old

  -- the bucket is as long as its bytes
  long : place_in_bucket first + length bytes ≤ length (bucket_of old c k)
  long = elim (part first (length bytes) fits) [
    | inl a ↦
        let inode_long : length (old c) ≡ 512 = (v.blocks c (λ z. v.some_types.1 (sym (v.typed.inodes n there) ∙ z))).0 in
        let rest = length-drop 128 (old c) in
        let is : length (bucket_of old c k) ≡ 384 = ap (λ j. length (bucket_of old c j)) a.0.bucket ∙ omega arith in
        let at = a.0.place in
        let end = a.1 in
        omega arith
    | inr b ↦
        let bucket = b.0.bucket in
        let at = b.0.place in
        let end = b.1 in
        let k_some : k ≢ 0 = λ z. absurd (omega (arith, z, bucket)) in
        let x : ℕ = leaf_block old c (k - 1) in
        let x_is : bucket_block old c k ≡ x = ap (λ t. if t then c else x) (ne_eqb k 0 k_some) in
        let x_some : x ≢ 0 = λ z. block_there (x_is ∙ z) in
        let is_data = v.typed.leaves n (k - 1) number (omega arith) x_some in
        let leaf_long : length (old x) ≡ 512 = (v.blocks x (two (type x) is_data)).0 in
        let is : length (bucket_of old c k) ≡ 512 = ap length (in_leaf old c k k_some ∙ ap (λ t. if t then [] else old x) (ne_eqb x 0 x_some)) ∙ leaf_long in
        omega arith
  ]
    where
      two : (t : ℕ) → t ≡ 2 → t ≢ 0
      two t is z = absurd (omega (arith, is, z))

  pub put_in : IsPut node inode top type old v n number there bytes range (place_in_bucket first) behind k
  put_in = is_put node inode top type old v n number there bytes range (place_in_bucket first) behind some k few long

  pub byte_put : (p : ℕ) → bucket_at p ≤ leaf_count → byte_of new c p ≡ byte_over first bytes (byte_of old c) p
  byte_put p few' = elim (cases_eq (bucket_at p) k) [
    | inl same ↦
        let part = piece first (length bytes) p fits same in
        byte_in new c p
        ∙ (ap (λ j. slice_index (bucket_of new c j) (place_in_bucket p)) same
        ∙ (ap (λ m. slice_index m (place_in_bucket p)) put_in.bucket
        ∙ (get_put (bucket_of old c k) bytes (place_in_bucket first) (place_in_bucket p) long
        ∙ (ap (λ t. if t then slice_index bytes (place_in_bucket p - place_in_bucket first) else slice_index (bucket_of old c k) (place_in_bucket p)) part.0
        ∙ chosen p (is_within first (length bytes) p) refl part.1 (sym (ap (λ j. slice_index (bucket_of old c j) (place_in_bucket p)) same) ∙ sym (byte_in old c p))))))
    | inr ne ↦
        byte_in new c p
        ∙ (ap (λ m. slice_index m (place_in_bucket p)) (put_in.others (bucket_at p) few' ne)
        ∙ (sym (byte_in old c p) ∙ sym (ap (λ t. if t then slice_index bytes (p - first) else byte_of old c p) (elsewhere first (length bytes) p fits ne))))
  ]
    where
      chosen : (p : ℕ) (t : Bool) → is_within first (length bytes) p ≡ t → (first ≤ p → place_in_bucket p - place_in_bucket first ≡ p - first) →
          slice_index (bucket_of old c k) (place_in_bucket p) ≡ byte_of old c p →
          (if is_within first (length bytes) p then slice_index bytes (place_in_bucket p - place_in_bucket first) else slice_index (bucket_of old c k) (place_in_bucket p))
          ≡ (if is_within first (length bytes) p then slice_index bytes (p - first) else byte_of old c p)
      chosen p true e index same =
          let low = leb-true first p (and_parts (nat_le first p) (nat_lt p (first + length bytes)) e).0 in
          (λ j. if is_within first (length bytes) p then slice_index bytes (index low j) else same j)
      chosen p false e index same =
          ap (λ t. if t then slice_index bytes (place_in_bucket p - place_in_bucket first) else slice_index (bucket_of old c k) (place_in_bucket p)) e
          ∙ (same ∙ sym (ap (λ t. if t then slice_index bytes (p - first) else byte_of old c p) e))
