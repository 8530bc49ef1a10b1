-- A file over whose bytes others are written, in the inode or in leaves that are there, and its size then.
use mathlib.Core.Path.{fun_ext}
use Rattle.std.proofs.Common.{◌≡◌, ◌≢◌, ◌⊎◌, ℕ, ℤ, ◌+◌, ◌-◌, ◌<◌, ◌≤◌, ◌^◌, List, [], ◌∷◌, ◌++◌, length, Option, None, Some, refl, sym, ◌∙◌, ap, inl, inr, arith, subst, if◌then◌else◌, length-append}
use Rattle.std.specs.Prelude.{All, FitsSigned, map, nat_lt, option_map, slice_index}
use Rattle.std.specs.Int.{w64}
use Rattle.std.specs.List.{range_with_len}
use Rattle.std.proofs.lemmas.Bool.{cases_eq, cases_lt, eq-eqb, le-ltb, lt-ltb, ne_eqb}
use Rattle.std.proofs.lemmas.List.{get_or-append_right, get_or_append_left}
use Rattle.treefs_format.specs.Fields.{fields_of}
use Rattle.treefs_format.specs.Inodes.{kind_of}
use Rattle.treefs_format.specs.Leaves.{greatest_size}
use Rattle.treefs_format.specs.Paths.{leaf_count}
use Rattle.treefs_format.specs.declared.fields.Fields.{Fields}
use Rattle.treefs_format.specs.declared.kind.Kind.{Kind}
use Rattle.treefs_format.specs.declared.kind.Kind.TheVariants as kind
use Rattle.treefs_model.specs.Acts.{changes_act}
use Rattle.treefs_model.specs.Changes.{overwritten, with_bytes}
use Rattle.treefs_model.specs.Files.{Content, Directory, File, Files, Inode, SymbolicLink, changed_at, changed_in}
use Rattle.treefs_model.specs.Reading.{byte_of, bytes_of, content_at, files_of, inode_with, key_in}
use Rattle.treefs_lookup.specs.Buckets.{bucket_block}
use Rattle.treefs_lookup.specs.Bytes.{bytes_from, part_left}
use Rattle.treefs_edits.specs.Written.{written}
use Rattle.treefs_byte_plans.specs.Fields.{risen, size_changes}
use Rattle.treefs_byte_plans.specs.Sizes.{changed_size}
use Rattle.treefs_values.specs.Bytes.{bucket_at, byte_over, is_within, put_within, with_put}
use Rattle.treefs_values.specs.Volumes.{IsVolume}
use Rattle.treefs_values.specs.Ways.{block_numbered}
use Rattle.treefs_values.proofs.ForCallers.{byte_put, file_read, files_put, inode_numbered, inside, numbered_same, outside, put_in, put_new, same_listed, volume_put}
use Rattle.treefs_laws.proofs.BytesOver.{few_buckets}
use Rattle.treefs_laws.proofs.Overwritten.{over_listed, put_listed}
use Rattle.treefs_laws.proofs.Truncated.{sized, sized_files, sized_volume}

-- Files changed twice

pub changed_twice : (files : Files) (n : ℕ) (f g : Inode → Inode) → changed_at (changed_at files n f) n g ≡ changed_at files n (λ inode. g (f inode))
changed_twice files n f g = fun_ext (λ m. by m (cases_eq m n))
  where
    own : (o : Option Inode) → changed_in g (changed_in f o) ≡ changed_in (λ inode. g (f inode)) o
    own None = refl
    own (Some inode) = refl

    here : changed_at files n f n ≡ changed_in f (files n)
    here = ap (λ t. if t then changed_in f (files n) else files n) (eq-eqb n n refl)

    by : (m : ℕ) → (m ≡ n) ⊎ (m ≢ n) → changed_at (changed_at files n f) n g m ≡ changed_at files n (λ inode. g (f inode)) m
    by m (inl same) =
        ap (λ t. if t then changed_in g (changed_at files n f n) else changed_at files n f m) (eq-eqb m n same)
        ∙ (ap (changed_in g) here ∙ (own (files n) ∙ sym (ap (λ t. if t then changed_in (λ inode. g (f inode)) (files n) else files m) (eq-eqb m n same))))
    by m (inr ne) =
        ap (λ t. if t then changed_in g (changed_at files n f n) else changed_at files n f m) (ne_eqb m n ne)
        ∙ (ap (λ t. if t then changed_in f (files n) else files m) (ne_eqb m n ne)
        ∙ sym (ap (λ t. if t then changed_in (λ inode. g (f inode)) (files n) else files m) (ne_eqb m n ne)))

-- an inode with bytes
abbrev pub with_content : List ℕ → Inode → Inode
with_content bytes inode = record inode { content = with_bytes (λ old. bytes) inode.content }

content_twice : (change : List ℕ → List ℕ) (bytes : List ℕ) (x : Content) → with_bytes change (with_bytes (λ old. bytes) x) ≡ with_bytes (λ old. change bytes) x
content_twice change bytes (File old) = refl
content_twice change bytes (SymbolicLink old) = refl
content_twice change bytes (Directory parent names) = refl

-- Bytes written over others, and then more behind them

module _ (f : ℕ → ℕ) (at : ℕ) (bytes more : List ℕ) (p : ℕ) where
  abbrev whole : ℕ
  whole = at + length (bytes ++ more)

  over_then : byte_over (at + length bytes) more (byte_over at bytes f) p ≡ byte_over at (bytes ++ more) f p
  over_then =
      let long : length (bytes ++ more) ≡ length bytes + length more = length-append bytes more in
      elim (cases_lt p at) [
        | inl below ↦
            out (at + length bytes) more (byte_over at bytes f p) (inl (omega arith)) ∙ (out at bytes (f p) (inl below) ∙ sym
            (out at (bytes ++ more) (f p) (inl below)))
        | inr above ↦ elim (cases_lt p (at + length bytes)) [
          | inl first ↦
              out (at + length bytes) more (byte_over at bytes f p) (inl first)
              ∙ (within at bytes (f p) above first
              ∙ (sym (get_or_append_left bytes more 0 (p - at) (omega arith)) ∙ sym (within at (bytes ++ more) (f p) above (omega arith))))
          | inr past ↦ elim (cases_lt p (at + length (bytes ++ more))) [
            | inl second ↦
                let same : p - (at + length bytes) ≡ p - at - length bytes = omega arith in
                within (at + length bytes) more (byte_over at bytes f p) past (omega arith)
                ∙ (ap (slice_index more) same
                ∙ (sym (get_or-append_right bytes more (length bytes) (p - at) 0 refl (omega arith)) ∙ sym (within at (bytes ++ more) (f p) above second)))
            | inr behind ↦
                out (at + length bytes) more (byte_over at bytes f p) (inr (omega arith))
                ∙ (out at bytes (f p) (inr past) ∙ sym (out at (bytes ++ more) (f p) (inr behind)))
          ]
        ]
      ]
    where
      out : (first : ℕ) (bytes : List ℕ) (old : ℕ) → (p < first) ⊎ (first + length bytes ≤ p) →
          (if is_within first (length bytes) p then slice_index bytes (p - first) else old) ≡ old
      out first bytes old h = ap (λ t. if t then slice_index bytes (p - first) else old) (outside first (length bytes) p h)

      within : (first : ℕ) (bytes : List ℕ) (old : ℕ) → first ≤ p → p < first + length bytes →
          (if is_within first (length bytes) p then slice_index bytes (p - first) else old) ≡ slice_index bytes (p - first)
      within first bytes old low high = ap (λ t. if t then slice_index bytes (p - first) else old) (inside first (length bytes) p low high)

-- A file, and its bytes from one on

module _ (node inode top : ℕ) (n : ℕ) (number : n ≢ 0) (b : ℕ) (there : b ≢ 0) (k : Kind) (no_directory : k ≢ kind.Directory)
    (content : ℕ → List ℕ) (block_is : block_numbered content top n ≡ b) (is_kind : kind_of (fields_of (content b)).mode ≡ Some k)
    (small : (fields_of (content b)).size ≤ greatest_size) (at : ℕ) where
  abbrev was : Fields
  was = fields_of (content b)

  abbrev files : Files
  files = files_of content top

  -- with those bytes from `at` on, and the size that it had
  pub record IsOver (type : ℕ → ℕ) (bytes : List ℕ) (m : ℕ → List ℕ) : Type 0 where
    pub volume : IsVolume node inode type m top
    pub block : block_numbered m top n ≡ b
    pub fields : fields_of (m b) ≡ was
    pub files_are : files_of m top ≡ changed_at files n (with_content (bytes_of m b))
    pub bytes_are : (p : ℕ) → p < greatest_size → byte_of m b p ≡ byte_over at bytes (byte_of content b) p

  abbrev pub value : Inode
  value = inode_with was (content_at content (key_in content top) b was.parent k)

  pub value_is : files n ≡ Some value
  value_is = file_read content top n b (sym (inode_numbered content top n number) ∙ block_is) there
      ∙ ap (option_map (λ k. inode_with was (content_at content (key_in content top) b was.parent k))) is_kind

  value_same : (k : Kind) → k ≢ kind.Directory →
      with_bytes (λ old. bytes_of content b) (content_at content (key_in content top) b was.parent k) ≡ content_at content (key_in content top) b was.parent k
  value_same kind.Directory other = absurd (other refl)
  value_same kind.File other = refl
  value_same kind.SymbolicLink other = refl

  -- no bytes
  pub over_none : (type : ℕ → ℕ) → IsVolume node inode type content top → IsOver type [] content
  over_none type v = record {
    volume = v;
    block = block_is;
    fields = refl;
    files_are = fun_ext (λ m. same m (cases_eq m n));
    bytes_are = λ p low. sym (ap (λ t. if t then slice_index [] (p - at) else byte_of content b p)
        (outside at 0 p (elim (cases_lt p at) [ inl below ↦ inl below | inr past ↦ inr (omega arith) ])));
  }
    where
      same : (m : ℕ) → (m ≡ n) ⊎ (m ≢ n) → files m ≡ changed_at files n (with_content (bytes_of content b)) m
      same m (inl is) =
          ap files is ∙ (value_is ∙ (ap (λ x. Some (inode_with was x)) (sym (value_same k no_directory))
          ∙ (ap (changed_in (with_content (bytes_of content b))) (sym value_is)
          ∙ sym (ap (λ t. if t then changed_in (with_content (bytes_of content b)) (files n) else files m) (eq-eqb m n is)))))
      same m (inr ne) = sym (ap (λ t. if t then changed_in (with_content (bytes_of content b)) (files n) else files m) (ne_eqb m n ne))

  -- Bytes are put behind those

  module _ (type : ℕ → ℕ) (bytes : List ℕ) (m : ℕ → List ℕ) (o : IsOver type bytes m) (more : List ℕ) (range : All (λ b. b < 256) more) (some : 0 < length more)
      (few : bucket_at (at + length bytes) ≤ leaf_count) (fits : length more ≤ part_left (at + length bytes))
      (block_there : bucket_block m b (bucket_at (at + length bytes)) ≢ 0) (behind : Option ℕ) where
    abbrev first : ℕ
    first = at + length bytes

    abbrev c : ℕ
    c = block_numbered m top n

    pub c_there : c ≢ 0
    c_there z = there (sym o.block ∙ z)

    pub put_there : bucket_block m c (bucket_at first) ≢ 0
    put_there z = block_there (ap (λ x. bucket_block m x (bucket_at first)) (sym o.block) ∙ z)

    abbrev next : ℕ → List ℕ
    next = put_new node inode top type m o.volume n number c_there more range some first few fits put_there behind

    next_small : (fields_of (m c)).size ≤ greatest_size
    next_small = subst (λ g. g.size ≤ greatest_size) (sym (ap (λ x. fields_of (m x)) o.block ∙ o.fields)) small

    next_kind : kind_of (fields_of (m c)).mode ≡ Some k
    next_kind = ap (λ x. kind_of (fields_of (m x)).mode) o.block ∙ (ap (λ (g : Fields). kind_of g.mode) o.fields ∙ is_kind)

    next_fields : fields_of (next b) ≡ fields_of (m b)
    next_fields =
        ap (λ x. fields_of (next x)) (sym o.block)
        ∙ ((put_in node inode top type m o.volume n number c_there more range some first few fits put_there behind).fields ∙ ap (λ x. fields_of (m x))
        o.block)

    next_byte : (p : ℕ) → p < greatest_size → byte_of next b p ≡ byte_over first more (byte_of m b) p
    next_byte p low =
        ap (λ x. byte_of next x p) (sym o.block)
        ∙ (byte_put node inode top type m o.volume n number c_there more range some first few fits put_there behind p (few_buckets p low)
        ∙ ap (λ x. byte_over first more (byte_of m x) p) o.block)

    next_bytes : put_within first more (bytes_of m b) ≡ bytes_of next b
    next_bytes =
        put_listed (byte_of m b) (fields_of (m b)).size first more
        ∙ (same_listed (byte_over first more (byte_of m b)) (byte_of next b) (fields_of (m b)).size
        (λ i lt. sym (next_byte i (let f : (fields_of (m b)).size ≤ greatest_size = subst (λ g. g.size ≤ greatest_size) (sym o.fields) small in omega arith)))
        ∙ ap (λ (g : Fields). map (byte_of next b) (range_with_len 0 g.size)) (sym next_fields))

    pub over_put : IsOver type (bytes ++ more) next
    over_put = record {
      volume = volume_put node inode top type m o.volume n number c_there more range some first few fits put_there behind next_small k next_kind
          no_directory;
      block = numbered_same node inode top type m next o.volume.typed
          (put_in node inode top type m o.volume n number c_there more range some first few fits put_there behind).keeps n ∙ o.block;
      fields = next_fields ∙ o.fields;
      files_are =
          files_put node inode top type m o.volume n number c_there more range some first few fits put_there behind next_small k next_kind no_directory
          ∙ (ap (λ g. changed_at g n (with_put first more)) o.files_are
          ∙ (changed_twice files n (with_content (bytes_of m b)) (with_put first more)
          ∙ ap (changed_at files n) (fun_ext (λ x. ap (λ y. record x { content = y })
          (content_twice (put_within first more) (bytes_of m b) x.content ∙ ap (λ ys. with_bytes (λ old. ys) x.content) next_bytes)))));
      bytes_are = λ p low.
          next_byte p low
          ∙ (ap (λ x. if is_within first (length more) p then slice_index more (p - first) else x) (o.bytes_are p low) ∙ over_then (byte_of content b) at
          bytes more p);
    }

  -- The size then

  module _ (type : ℕ → ℕ) (bytes : List ℕ) (m : ℕ → List ℕ) (o : IsOver type bytes m) (time : ℤ) (fits : FitsSigned w64 time)
      (few : at + length bytes ≤ greatest_size)
      (zeros : (p : ℕ) → was.size ≤ p → p < at → byte_of content b p ≡ 0) where
    abbrev end : ℕ
    end = at + length bytes

    abbrev size' : ℕ
    size' = if nat_lt was.size end then end else was.size

    size_cases : (size' ≡ was.size) × (end ≤ was.size) ⊎ (size' ≡ end) × (was.size < end)
    size_cases = elim (cases_lt was.size end) [
      | inl more ↦ inr (ap (λ t. if t then end else was.size) (lt-ltb was.size end more), more)
      | inr less ↦ inl (ap (λ t. if t then end else was.size) (le-ltb was.size end less), less)
    ]

    size_more : was.size ≤ size'
    size_more = elim size_cases [ inl c ↦ let e = c.0 in omega arith | inr c ↦ let e = c.0 in let lt = c.1 in omega arith ]

    size_past : end ≤ size'
    size_past = elim size_cases [ inl c ↦ let e = c.0 in let le = c.1 in omega arith | inr c ↦ let e = c.0 in omega arith ]

    size_few : size' ≤ greatest_size
    size_few = elim size_cases [ inl c ↦ let e = c.0 in omega arith | inr c ↦ let e = c.0 in omega arith ]

    size_short : size' < 2 ^ 64
    size_short = let f = size_few in omega arith

    -- what is written of the size
    size_change : changed_size was.size size' ≡ risen was.size end
    size_change = elim size_cases [
      | inl (same, le) ↦
          ap (λ t. if t then None else Some size') (eq-eqb size' was.size same) ∙ sym (ap (λ t. if t then Some end else None) (le-ltb was.size end le))
      | inr (same, lt) ↦
          ap (λ t. if t then None else Some size') (ne_eqb size' was.size (λ z. absurd (omega (arith, z, same, lt))))
          ∙ (ap Some same ∙ sym (ap (λ t. if t then Some end else None) (lt-ltb was.size end lt)))
    ]

    m_there : block_numbered m top n ≢ 0
    m_there z = there (sym o.block ∙ z)

    m_kind : kind_of (fields_of (m (block_numbered m top n))).mode ≡ Some k
    m_kind = ap (λ x. kind_of (fields_of (m x)).mode) o.block ∙ (ap (λ (g : Fields). kind_of g.mode) o.fields ∙ is_kind)

    abbrev pub dated : ℕ → List ℕ
    dated = written (changes_act b (size_changes (risen was.size end) (record { mtime = time; ctime = time }) ∷ []) None) m

    is_sized : sized node inode top type m o.volume n number m_there size' time fits size_short k m_kind no_directory ≡ dated
    is_sized =
        let change : changed_size (fields_of (m (block_numbered m top n))).size size' ≡ risen was.size end =
        ap (λ (g : Fields). changed_size g.size size') (ap (λ x. fields_of (m x)) o.block ∙ o.fields) ∙ size_change in
        (λ j. written (changes_act (o.block j) (size_changes (change j) (record { mtime = time; ctime = time }) ∷ []) None) m)

    pub dated_volume : IsVolume node inode type dated top
    dated_volume = subst (λ c. IsVolume node inode type c top) is_sized
        (sized_volume node inode top type m o.volume n number m_there size' time fits size_short k m_kind no_directory)

    sized_bytes : bytes_from m (block_numbered m top n) 0 size' ≡ overwritten (bytes_of content b) at bytes
    sized_bytes =
        ap (λ x. bytes_from m x 0 size') o.block
        ∙ (same_listed (byte_of m b) (byte_over at bytes (byte_of content b)) size' (λ i lt. o.bytes_are i (let f = size_few in omega arith))
        ∙ over_listed (byte_of content b) was.size at bytes size' size_more size_past (elim size_cases [ inl c ↦ inl c.0 | inr c ↦ inr c.0 ]) zeros)

    abbrev pub dated_inode : Inode → Inode
    dated_inode x = record x { mtime = time; ctime = time; content = with_bytes (λ old. overwritten (bytes_of content b) at bytes) x.content }

    pub dated_files : files_of dated top ≡ changed_at files n dated_inode
    dated_files =
        ap (λ c. files_of c top) (sym is_sized)
        ∙ (sized_files node inode top type m o.volume n number m_there size' time fits size_short k m_kind no_directory
        ∙ (ap (λ g. changed_at g n (λ x. record x {
          mtime = time;
          ctime = time;
          content = with_bytes (λ old. bytes_from m (block_numbered m top n) 0 size')
              x.content;
        })) o.files_are
        ∙ (changed_twice files n (with_content (bytes_of m b)) (λ x. record x {
          mtime = time;
          ctime = time;
          content = with_bytes
              (λ old. bytes_from m (block_numbered m top n) 0 size') x.content;
        })
        ∙ ap (changed_at files n) (fun_ext (λ x. ap (λ y. record x { mtime = time; ctime = time; content = y })
        (content_twice (λ old. bytes_from m (block_numbered m top n) 0 size') (bytes_of m b) x.content ∙ ap (λ ys. with_bytes (λ old. ys) x.content)
        sized_bytes))))))

  -- or it stays

  module _ (type : ℕ → ℕ) (bytes : List ℕ) (m : ℕ → List ℕ) (o : IsOver type bytes m) where
    abbrev put_bytes : List ℕ
    put_bytes = map (byte_over at bytes (byte_of content b)) (range_with_len 0 was.size)

    listed_bytes : bytes_of m b ≡ put_bytes
    listed_bytes =
        ap (λ (g : Fields). map (byte_of m b) (range_with_len 0 g.size)) o.fields
        ∙ same_listed (byte_of m b) (byte_over at bytes (byte_of content b)) was.size (λ i lt. o.bytes_are i (omega arith))

    -- as many bytes as before
    pub put_bytes_are : bytes_of m b ≡ put_within at bytes (bytes_of content b)
    put_bytes_are = listed_bytes ∙ sym (put_listed (byte_of content b) was.size at bytes)

    pub within_bytes : at + length bytes ≤ was.size → bytes_of m b ≡ overwritten (bytes_of content b) at bytes
    within_bytes le = listed_bytes ∙ over_listed (byte_of content b) was.size at bytes was.size (omega arith) le (inl refl) (λ p low high. absurd (omega arith))
