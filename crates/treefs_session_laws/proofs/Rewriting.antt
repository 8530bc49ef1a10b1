-- Files of which one has the first of some bytes written from a byte on, and some of them put, where orphans are freed before or behind that.
use mathlib.Core.Path.{fun_ext}
use Rattle.std.proofs.Common.{◌≡◌, ◌≢◌, ◌⊎◌, ℕ, ℤ, ◌+◌, ◌≤◌, Bool, true, false, not, ◌||◌, List, drop, length, take, Option, None, Some, Result, Ok, Err, refl, sym, ◌∙◌, ap, inl, inr, arith, subst, if◌then◌else◌}
use Rattle.std.proofs.Common.{◌<◌, eq-eqb, ne_eqb}
use Rattle.std.specs.Prelude.{max, nat_le, ◌==◌}
use Rattle.std.specs.Option.{ok_or}
use Rattle.std.proofs.lemmas.Bool.{cases_eq, lt-leb}
use Rattle.treefs_format.specs.Leaves.{greatest_size}
use Rattle.treefs_model.specs.Changes.{overwritten, rewritten, with_bytes, written}
use Rattle.treefs_model.specs.Files.{Content, Directory, File, Files, Inode, SymbolicLink, and_then, bytes_in, changed_at, changed_in, file_at}
use Rattle.treefs_model.specs.declared.fault.Fault.{Fault}
use Rattle.treefs_model.specs.declared.fault.Fault.TheVariants.{NoEntry, TooLarge}
use Rattle.treefs_values.specs.Bytes.{put_within, with_put}
use Rattle.treefs_laws.specs.Orphans.{IsReaped}
use Rattle.treefs_laws.specs.Overwriting.{IsPartlyPut}
use Rattle.treefs_laws.specs.Reading.{HasFewBytes}
use Rattle.treefs_laws.proofs.ForCallers.{reaped_same, reaped_then}
use Rattle.treefs_session_laws.proofs.Altered.{altered_reaped, edited, file_was, here_is, other_is}
use Rattle.treefs_session_laws.proofs.Pieces.{IsWriting, all_written, longer, longer_is, nothing_writing, put_is, put_writing, writing_cleared, writing_then, written_is, written_writing}

-- Changes of one inode, one after another

same_changed : (files : Files) (n : ℕ) (f g : Inode → Inode) → ((inode : Inode) → f inode ≡ g inode) → changed_at files n f ≡ changed_at files n g
same_changed files n f g same = ap (changed_at files n) (fun_ext same)

changed_then : (files : Files) (n : ℕ) (f g : Inode → Inode) → changed_at (changed_at files n f) n g ≡ changed_at files n (λ inode. g (f inode))
changed_then files n f g = fun_ext (λ m. elim (cases_eq m n) [
  | inl same ↦
      here_is (changed_at files n f) n g m same
      ∙ (ap (changed_in g) (here_is files n f n refl) ∙ (both (files n) ∙ sym (here_is files n (λ inode. g (f inode)) m same)))
  | inr ne ↦ other_is (changed_at files n f) n g m ne ∙ (other_is files n f m ne ∙ sym (other_is files n (λ inode. g (f inode)) m ne))
])
  where
    both : (o : Option Inode) → changed_in g (changed_in f o) ≡ changed_in (λ inode. g (f inode)) o
    both None = refl
    both (Some inode) = refl

unchanged : (files : Files) (n : ℕ) (f : Inode → Inode) → ((inode : Inode) → f inode ≡ inode) → changed_at files n f ≡ files
unchanged files n f same = fun_ext (λ m. elim (cases_eq m n) [
  | inl here ↦ here_is files n f m here ∙ (in_it (files n) ∙ sym (ap files here))
  | inr ne ↦ other_is files n f m ne
])
  where
    in_it : (o : Option Inode) → changed_in f o ≡ o
    in_it None = refl
    in_it (Some inode) = ap Some (same inode)

bytes_then : (f g : List ℕ → List ℕ) (content : Content) → with_bytes g (with_bytes f content) ≡ with_bytes (λ bytes. g (f bytes)) content
bytes_then f g (File bytes) = refl
bytes_then f g (SymbolicLink bytes) = refl
bytes_then f g (Directory parent names) = refl

bytes_same : (content : Content) → with_bytes (λ bytes. bytes) content ≡ content
bytes_same (File bytes) = refl
bytes_same (SymbolicLink bytes) = refl
bytes_same (Directory parent names) = refl

-- whether a time is set: where some bytes are written
abbrev pub dates : ℕ → Bool
dates k = not (k == 0)

dates_then : (t k : ℕ) → (dates t || dates k) ≡ dates (t + k)
dates_then t k = elim (cases_eq t 0) [
  | inl none ↦ ap (λ b. not b || dates k) (eq-eqb t 0 none) ∙ ap dates (let same : k ≡ t + k = omega arith in same)
  | inr some ↦ ap (λ b. not b || dates k) (ne_eqb t 0 some) ∙ sym (ap not (ne_eqb (t + k) 0 (λ z. some (omega arith))))
]

edited_then : (a b : Bool) (clock : ℤ) (f g : List ℕ → List ℕ) (inode : Inode) →
    edited b clock g (edited a clock f inode) ≡ edited (a || b) clock (λ bytes. g (f bytes)) inode
edited_then true true clock f g inode = ap (λ content. record inode { mtime = clock; ctime = clock; content = content }) (bytes_then f g inode.content)
edited_then true false clock f g inode = ap (λ content. record inode { mtime = clock; ctime = clock; content = content }) (bytes_then f g inode.content)
edited_then false true clock f g inode = ap (λ content. record inode { mtime = clock; ctime = clock; content = content }) (bytes_then f g inode.content)
edited_then false false clock f g inode = ap (λ content. record inode { content = content }) (bytes_then f g inode.content)

unedited : (clock : ℤ) (inode : Inode) → edited false clock (λ bytes. bytes) inode ≡ inode
unedited clock inode = ap (λ content. record inode { content = content }) (bytes_same inode.content)

-- The file that is changed

edited_bytes : (is_dated : Bool) (clock : ℤ) (change : List ℕ → List ℕ) (files : Files) (n : ℕ) (bytes : List ℕ) →
    file_at (changed_at files n (edited is_dated clock change)) n ≡ Ok bytes → (before : List ℕ) × (file_at files n ≡ Ok before) × (bytes ≡ change before)
edited_bytes is_dated clock change files n bytes is = by (files n) refl
    (sym (ap (λ o. and_then (ok_or o NoEntry) (λ (inode : Inode). bytes_in inode.content)) (here_is files n (edited is_dated clock change) n refl)) ∙ is)
  where
    same : (a b : List ℕ) → ◌≡◌ {A = Result (List ℕ) Fault} (Ok a) (Ok b) → b ≡ a
    same a b e = cc e

    in_content : (content : Content) → bytes_in (with_bytes change content) ≡ Ok bytes → (before : List ℕ) × (bytes_in content ≡ Ok before) ×
        (bytes ≡ change before)
    in_content (File before) e = (before, refl, same (change before) bytes e)
    in_content (SymbolicLink before) e = (before, refl, same (change before) bytes e)
    in_content (Directory parent names) e = absurd (cc e)

    by : (o : Option Inode) → files n ≡ o →
        and_then (ok_or (changed_in (edited is_dated clock change) o) NoEntry) (λ (inode : Inode). bytes_in inode.content) ≡ Ok bytes →
        (before : List ℕ) × (file_at files n ≡ Ok before) × (bytes ≡ change before)
    by None there e = absurd (cc e)
    by (Some inode) there e =
        let c = in_content inode.content e in
        (c.0, ap (λ o. and_then (ok_or o NoEntry) (λ (inode : Inode). bytes_in inode.content)) there ∙ c.1, c.2)

-- where orphans are freed it has no more bytes than before
pub few_reaped : (Among : ℕ → Type 0) → ((n : ℕ) → Among n ⊎ (Among n → ⊥)) → (n : ℕ) (old new : Files) → IsReaped Among old new → HasFewBytes old n →
    HasFewBytes new n
few_reaped Among tells n old new reaped few bytes is =
    let was = file_was Among tells n old new reaped bytes is in
    let f = few was.0 was.1 in
    let long = was.2 in
    omega arith

-- it is there, and bytes up to one may stand in it
pub record IsToHold (files : Files) (n end : ℕ) : Type 0 where
  pub bytes : List ℕ
  pub there : file_at files n ≡ Ok bytes
  pub small : end ≤ greatest_size

module _ (Among : ℕ → Type 0) (tells : (n : ℕ) → Among n ⊎ (Among n → ⊥)) (clock : ℤ) (n : ℕ) where
  -- the first k of the bytes are written from a byte on, and some of them put; orphans may be freed
  pub record AreWritten (at : ℕ) (bytes : List ℕ) (k : ℕ) (old new : Files) : Type 0 where
    pub count : ℕ
    pub change : List ℕ → List ℕ
    pub writing : IsWriting at bytes k count change
    pub files : IsReaped Among (changed_at old n (edited (dates k) clock change)) new
    pub holds : k ≢ 0 → IsToHold old n (at + k)

  pub reaped_written : (at : ℕ) (bytes : List ℕ) (old new : Files) → IsReaped Among old new → AreWritten at bytes 0 old new
  reaped_written at bytes old new reaped = record {
    count = 0;
    change = λ old. old;
    writing = nothing_writing at bytes;
    files = subst (λ files. IsReaped Among files new) (sym (unchanged old n (edited false clock (λ bytes. bytes)) (unedited clock))) reaped;
    holds = λ some. absurd (some refl);
  }

  pub put_written : (at : ℕ) (bytes : List ℕ) (old new : Files) → IsPartlyPut old n at bytes new → AreWritten at bytes 0 old new
  put_written at bytes old new (count, few, is) = record {
    count = count;
    change = put_within at (take count bytes);
    writing = put_writing at bytes count few;
    files = subst (IsReaped Among (changed_at old n (with_put at (take count bytes)))) (sym is)
        (reaped_same Among tells (changed_at old n (with_put at (take count bytes))));
    holds = λ some. absurd (some refl);
  }

  -- what a write makes of files, where it is not refused
  module _ (at : ℕ) (bytes : List ℕ) (k : ℕ) (old new : Files) (some_bytes : length bytes ≢ 0) (is : written old clock n at bytes k ≡ Ok new) where
    same_files : (a b : Files) → ◌≡◌ {A = Result Files Fault} (Ok a) (Ok b) → b ≡ a
    same_files a b e = cc e

    abbrev over : Files
    over = changed_at old n (rewritten clock (λ b. overwritten b at (take k bytes)))

    written_so : (there : List ℕ) × (file_at old n ≡ Ok there) × (new ≡ over)
    written_so = by (file_at old n) refl (length bytes == 0) (ne_eqb (length bytes) 0 some_bytes) (nat_le greatest_size at) is
      where
        by : (r : Result (List ℕ) Fault) → file_at old n ≡ r → (t : Bool) → t ≡ false → (u : Bool) →
            and_then r (λ b. if u then Err TooLarge else if t then Ok old else Ok over) ≡ Ok new →
            (there : List ℕ) × (file_at old n ≡ Ok there) × (new ≡ over)
        by (Err fault) there t none u e = absurd (cc e)
        by (Ok b) there true none u e = absurd (cc none)
        by (Ok b) there false none true e = absurd (cc e)
        by (Ok b) there false none false e = (b, there, same_files over new e)

    pub write_written : k ≢ 0 → k ≤ length bytes → at + k ≤ greatest_size → AreWritten at bytes k old new
    write_written some few small = record {
      count = k;
      change = λ b. overwritten b at (take k bytes);
      writing = written_writing at bytes k some few;
      files = subst (λ t. IsReaped Among (changed_at old n (edited t clock (λ b. overwritten b at (take k bytes)))) new) (sym (ap not (ne_eqb k 0 some)))
          (subst (IsReaped Among over) (sym written_so.2) (reaped_same Among tells over));
      holds = λ any. record { bytes = written_so.0; there = written_so.1; small = small };
    }

  pub written_then : (at t : ℕ) (bytes : List ℕ) (k : ℕ) (old middle new : Files) → AreWritten at bytes t old middle →
      AreWritten (at + t) (drop t bytes) k middle new → AreWritten at bytes (t + k) old new
  written_then at t bytes k old middle new first second = record {
    count = max first.count (t + second.count);
    change = λ b. second.change (first.change b);
    writing = writing_then at bytes t first.count first.change k second.count second.change first.writing second.writing;
    files = subst (λ files. IsReaped Among files new) both (reaped_then Among tells twice (changed_at middle n later) new swapped second.files);
    holds = holds;
  }
    where
      earlier : Inode → Inode
      earlier = edited (dates t) clock first.change

      later : Inode → Inode
      later = edited (dates k) clock second.change

      twice : Files
      twice = changed_at (changed_at old n earlier) n later

      swapped : IsReaped Among twice (changed_at middle n later)
      swapped = altered_reaped second.change (writing_cleared (at + t) (drop t bytes) k second.count second.change second.writing) Among tells (dates k) clock n
          (changed_at old n earlier) middle first.files

      both : twice ≡ changed_at old n (edited (dates (t + k)) clock (λ b. second.change (first.change b)))
      both =
          changed_then old n earlier later
          ∙ (same_changed old n (λ inode. later (earlier inode)) (edited (dates t || dates k) clock (λ b. second.change (first.change b)))
          (edited_then (dates t) (dates k) clock first.change second.change)
          ∙ ap (λ b. changed_at old n (edited b clock (λ b. second.change (first.change b)))) (dates_then t k))

      holds : t + k ≢ 0 → IsToHold old n (at + (t + k))
      holds some = elim (cases_eq k 0) [
        | inl none ↦
            let h = first.holds (λ z. some (omega arith)) in
            let e = h.small in
            record { bytes = h.bytes; there = h.there; small = omega arith }
        | inr more ↦
            let h = second.holds more in
            let e = h.small in
            let was = file_was Among tells n (changed_at old n earlier) middle first.files h.bytes h.there in
            let before = edited_bytes (dates t) clock first.change old n was.0 was.1 in
            record { bytes = before.0; there = before.1; small = omega arith }
      ]

  -- It has no more bytes than one may have
  pub few_written : (at : ℕ) (bytes : List ℕ) (k : ℕ) (old new : Files) → AreWritten at bytes k old new → HasFewBytes old n → HasFewBytes new n
  few_written at bytes k old new are few there is =
      let was = file_was Among tells n (changed_at old n (edited (dates k) clock are.change)) new are.files there is in
      let before = edited_bytes (dates k) clock are.change old n was.0 was.1 in
      let was_few = few before.0 before.1 in
      let long : length there ≡ longer at k (length before.0) = was.2 ∙ (ap length before.2 ∙ (are.writing.over before.0).long) in
      elim (longer_is at k (length before.0)) [
        | inl (none, size) ↦ omega arith
        | inr (some, size) ↦ let e = (are.holds some).small in omega arith
      ]

  -- In the words of the model

  module _ (at : ℕ) (bytes : List ℕ) (k : ℕ) (old : Files) where
    pub written_files : k ≢ 0 → length bytes ≢ 0 → IsToHold old n (at + k) →
        written old clock n at bytes k ≡ Ok (changed_at old n (rewritten clock (λ b. overwritten b at (take k bytes))))
    written_files some some_bytes h =
        let e = h.small in
        ap (λ r. and_then r (λ b. if nat_le greatest_size at then Err TooLarge else if (length bytes == 0) then Ok old else Ok over)) h.there
        ∙ (ap (λ t. if t then Err TooLarge else if (length bytes == 0) then Ok old else Ok over) (low (omega arith))
        ∙ ap (λ t. if t then Ok old else Ok over) (ne_eqb (length bytes) 0 some_bytes))
      where
        over : Files
        over = changed_at old n (rewritten clock (λ b. overwritten b at (take k bytes)))

        low : at < greatest_size → nat_le greatest_size at ≡ false
        low lt = lt-leb greatest_size at lt

  -- all of them
  pub whole_written : (at : ℕ) (bytes : List ℕ) (k : ℕ) (old new : Files) → AreWritten at bytes k old new → length bytes ≢ 0 → k ≡ length bytes →
      (files : Files) × (written old clock n at bytes (length bytes) ≡ Ok files) × IsReaped Among files new
  whole_written at bytes k old new are some is = by are (subst (λ k. AreWritten at bytes k old new) is are)
    where
      by : AreWritten at bytes k old new → AreWritten at bytes (length bytes) old new → (files : Files) ×
          (written old clock n at bytes (length bytes) ≡ Ok files) × IsReaped Among files new
      by same all = (
        changed_at old n (rewritten clock (λ b. overwritten b at (take (length bytes) bytes))),
        written_files at bytes (length bytes) old some some (all.holds some),
        subst (λ files. IsReaped Among files new) (ap (λ t. changed_at old n (edited t clock all.change)) (ap not (ne_eqb (length bytes) 0 some))
            ∙ same_changed old n (edited true clock all.change) (rewritten clock (λ b. overwritten b at (take (length bytes) bytes)))
            (λ inode. ap (λ f. edited true clock f inode) (fun_ext (all_written at bytes all.count all.change some all.writing)))) all.files,
      )

  -- some of them, and some are put
  pub part_written : (at : ℕ) (bytes : List ℕ) (k : ℕ) (old new : Files) → AreWritten at bytes k old new → k ≤ length bytes →
      (files : Files) × (((k ≡ 0) × (files ≡ old)) ⊎ (written old clock n at bytes k ≡ Ok files))
      × ((files' : Files) × IsPartlyPut files n at bytes files' × IsReaped Among files' new)
  part_written at bytes k old new are less = elim (cases_eq k 0) [
    | inl none ↦ of_none none (subst (λ k. AreWritten at bytes k old new) none are)
    | inr some ↦ (
      over,
      inr (written_files at bytes k old some (λ z. some (omega arith)) (are.holds some)),
      (
        changed_at over n (with_put at (take are.count bytes)),
        (are.count, are.writing.few, refl),
        subst (λ files. IsReaped Among files new) (some_is some) are.files,
      ),
    )
  ]
    where
      over : Files
      over = changed_at old n (rewritten clock (λ b. overwritten b at (take k bytes)))

      of_none : k ≡ 0 → AreWritten at bytes 0 old new → (files : Files) × (((k ≡ 0) × (files ≡ old)) ⊎ (written old clock n at bytes k ≡ Ok files))
          × ((files' : Files) × IsPartlyPut files n at bytes files' × IsReaped Among files' new)
      of_none none put = (
        old,
        inl (none, refl),
        (
          changed_at old n (with_put at (take put.count bytes)),
          (put.count, put.writing.few, refl),
          subst (λ files. IsReaped Among files new) (same_changed old n (edited false clock put.change) (with_put at (take put.count bytes))
              (λ inode. ap (λ f. edited false clock f inode) (fun_ext (put_is at bytes put.count put.change put.writing)))) put.files,
        ),
      )

      some_is : k ≢ 0 → changed_at old n (edited (dates k) clock are.change) ≡ changed_at over n (with_put at (take are.count bytes))
      some_is some =
          ap (λ t. changed_at old n (edited t clock are.change)) (ap not (ne_eqb k 0 some))
          ∙ (same_changed old n (edited true clock are.change)
          (edited true clock (λ b. put_within at (take are.count bytes) (overwritten b at (take k bytes))))
          (λ inode. ap (λ f. edited true clock f inode) (fun_ext (written_is at bytes k are.count are.change some are.writing)))
          ∙ (same_changed old n (edited true clock (λ b. put_within at (take are.count bytes) (overwritten b at (take k bytes))))
          (λ inode. with_put at (take are.count bytes) (rewritten clock (λ b. overwritten b at (take k bytes)) inode))
          (λ inode. sym (edited_then true false clock (λ b. overwritten b at (take k bytes)) (put_within at (take are.count bytes)) inode))
          ∙ sym (changed_then old n (rewritten clock (λ b. overwritten b at (take k bytes))) (with_put at (take are.count bytes)))))
