-- Files of which one has its bytes changed, where orphans are freed before or behind that.
use mathlib.Core.Path.{fun_ext}
use Rattle.std.proofs.Common.{◌≡◌, ◌≢◌, ◌⊎◌, ℕ, ℤ, Bool, true, false, List, Option, None, Some, Result, Ok, Err, refl, sym, ◌∙◌, ap, inl, inr, length, subst, if◌then◌else◌}
use Rattle.std.specs.Prelude.{nat_lt}
use Rattle.std.specs.Option.{ok_or}
use Rattle.std.proofs.lemmas.Bool.{cases_eq, eq-eqb, ne_eqb}
use Rattle.std.proofs.lemmas.Option.{same_Some}
use Rattle.treefs_format.specs.Leaves.{greatest_size}
use Rattle.treefs_model.specs.Changes.{resized, rewritten, truncated, with_bytes}
use Rattle.treefs_model.specs.Files.{Content, Directory, File, Files, Inode, SymbolicLink, and_then, bytes_in, changed_at, changed_in, file_at}
use Rattle.treefs_model.specs.declared.fault.Fault.{Fault}
use Rattle.treefs_model.specs.declared.fault.Fault.TheVariants.{NoEntry, TooLarge}
use Rattle.treefs_laws.specs.Orphans.{AreCleared, IsLeftOf, IsOrphan, IsReaped}
use Rattle.treefs_laws.proofs.ForCallers.{is_orphan_or_not, reaped_then}
use Rattle.treefs_session_laws.proofs.Resized.{resized_cleared, resized_twice}

-- One inode is changed

pub here_is : (files : Files) (n : ℕ) (change : Inode → Inode) (m : ℕ) → m ≡ n → changed_at files n change m ≡ changed_in change (files n)
here_is files n change m same = ap (λ t. if t then changed_in change (files n) else files m) (eq-eqb m n same)

pub other_is : (files : Files) (n : ℕ) (change : Inode → Inode) (m : ℕ) → m ≢ n → changed_at files n change m ≡ files m
other_is files n change m ne = ap (λ t. if t then changed_in change (files n) else files m) (ne_eqb m n ne)

-- the content of an inode changes; is_dated: its times too
abbrev pub edited : Bool → ℤ → (List ℕ → List ℕ) → Inode → Inode
edited is_dated clock change inode = record inode {
  mtime = if is_dated then clock else inode.mtime;
  ctime = if is_dated then clock else inode.ctime;
  content = with_bytes change inode.content;
}

was_some : (change : Inode → Inode) (o : Option Inode) (inode : Inode) → changed_in change o ≡ Some inode → (i : Inode) × (o ≡ Some i) × (change i ≡ inode)
was_some change None inode is = absurd (cc is)
was_some change (Some i) inode is = (i, refl, same_Some (change i) inode is)

module _ (change : List ℕ → List ℕ) (clears : (bytes left : List ℕ) → AreCleared bytes left → AreCleared (change bytes) (change left)) where
  content_left : (content left : Content) → IsLeftOf content left → IsLeftOf (with_bytes change content) (with_bytes change left)
  content_left (File bytes) (File left) is = clears bytes left is
  content_left (SymbolicLink bytes) (SymbolicLink left) is = clears bytes left is
  content_left (Directory parent names) (Directory directory left) is = is
  content_left (File bytes) (SymbolicLink left) is = absurd is
  content_left (File bytes) (Directory directory left) is = absurd is
  content_left (SymbolicLink bytes) (File left) is = absurd is
  content_left (SymbolicLink bytes) (Directory directory left) is = absurd is
  content_left (Directory parent names) (File left) is = absurd is
  content_left (Directory parent names) (SymbolicLink left) is = absurd is

  module _ (Among : ℕ → Type 0) (tells : (n : ℕ) → Among n ⊎ (Among n → ⊥)) (is_dated : Bool) (clock : ℤ) (n : ℕ) (old new : Files)
      (reaped : IsReaped Among old new) where
    abbrev edit : Inode → Inode
    edit = edited is_dated clock change

    abbrev now : Files → Files
    now files = changed_at files n edit

    orphan_now : (m : ℕ) → IsOrphan Among old m → IsOrphan Among (now old) m
    orphan_now m orphan = elim (cases_eq m n) [
      | inl same ↦ record {
        among = orphan.among;
        inode = edit orphan.inode;
        there = here_is old n edit m same ∙ ap (changed_in edit) (sym (ap old same) ∙ orphan.there);
        unlinked = orphan.unlinked;
      }
      | inr ne ↦ record {
        among = orphan.among;
        inode = orphan.inode;
        there = other_is old n edit m ne ∙ orphan.there;
        unlinked = orphan.unlinked;
      }
    ]

    others_now : (m : ℕ) → (IsOrphan Among (now old) m → ⊥) → now new m ≡ now old m
    others_now m not_orphan =
        let was = reaped.others m (λ orphan. not_orphan (orphan_now m orphan)) in
        elim (cases_eq m n) [
          | inl same ↦
              here_is new n edit m same
              ∙ (ap (changed_in edit) (sym (ap new same) ∙ (was ∙ ap old same)) ∙ sym (here_is old n edit m same))
          | inr ne ↦ other_is new n edit m ne ∙ (was ∙ sym (other_is old n edit m ne))
        ]

    abbrev Left : ℕ → Inode → Type 0
    Left m inode = (content : Content) × IsLeftOf inode.content content × (now new m ≡ Some (record inode { content = content }))

    left_here : (inode : Inode) → IsOrphan Among (now old) n → now old n ≡ Some inode → now new n ≢ None → Left n inode
    left_here inode orphan there some =
        let was = was_some edit (old n) inode (sym (here_is old n edit n refl) ∙ there) in
        let no_links = ap (λ (i : Inode). i.links) (was.2 ∙ same_Some inode orphan.inode (sym there ∙ orphan.there)) ∙ orphan.unlinked in
        let old_orphan : IsOrphan Among old n = record { among = orphan.among; inode = was.0; there = was.1; unlinked = no_links } in
        let l = reaped.left n was.0 old_orphan was.1
        (λ none. some (here_is new n edit n refl ∙ ap (changed_in edit) none)) in (
          with_bytes change l.0,
          subst (λ (i : Inode). IsLeftOf i.content (with_bytes change l.0)) was.2 (content_left was.0.content l.0 l.1),
          here_is new n edit n refl
              ∙ (ap (changed_in edit) l.2 ∙ ap (λ (i : Inode). Some (record i { content = with_bytes change l.0 })) was.2),
        )

    left_other : (m : ℕ) (inode : Inode) → m ≢ n → IsOrphan Among (now old) m → now old m ≡ Some inode → now new m ≢ None → Left m inode
    left_other m inode ne orphan there some =
        let old_there : old m ≡ Some inode = sym (other_is old n edit m ne) ∙ there in
        let old_orphan : IsOrphan Among old m = record {
          among = orphan.among;
          inode = orphan.inode;
          there = sym (other_is old n edit m ne) ∙ orphan.there;
          unlinked = orphan.unlinked;
        } in
        let l = reaped.left m inode old_orphan old_there (λ none. some (other_is new n edit m ne ∙ none)) in
        (l.0, l.1, other_is new n edit m ne ∙ l.2)

    pub altered_reaped : IsReaped Among (changed_at old n edit) (changed_at new n edit)
    altered_reaped = record {
      others = others_now;
      left = λ m inode orphan there some. elim (cases_eq m n) [
        | inl same ↦
            subst (λ k. Left k inode) (sym same) (left_here inode (subst (IsOrphan Among (now old)) same orphan) (sym (ap (now old) same) ∙ there)
            (λ none. some (ap (now new) same ∙ none)))
        | inr ne ↦ left_other m inode ne orphan there some
      ];
    }

-- Its bytes are there, also before orphans were freed

same_bytes : (a b : List ℕ) → ◌≡◌ {A = Result (List ℕ) Fault} (Ok a) (Ok b) → a ≡ b
same_bytes a b e = cc e

file_of : (o : Option Inode) (bytes : List ℕ) → and_then (ok_or o NoEntry) (λ inode. bytes_in inode.content) ≡ Ok bytes →
    (inode : Inode) × (o ≡ Some inode) × (bytes_in inode.content ≡ Ok bytes)
file_of None bytes is = absurd (cc is)
file_of (Some inode) bytes is = (inode, refl, is)

-- as many as before
abbrev pub AreAsMany : List ℕ → Result (List ℕ) Fault → Type 0
AreAsMany bytes before = (others : List ℕ) × (before ≡ Ok others) × (length bytes ≡ length others)

left_bytes : (content left : Content) (bytes : List ℕ) → IsLeftOf content left → bytes_in left ≡ Ok bytes → AreAsMany bytes (bytes_in content)
left_bytes (File others) (File left) bytes is there = (others, refl, sym (ap length (same_bytes left bytes there)) ∙ is.0)
left_bytes (SymbolicLink others) (SymbolicLink left) bytes is there = (others, refl, sym (ap length (same_bytes left bytes there)) ∙ is.0)
left_bytes (Directory parent names) (Directory directory left) bytes is there = absurd (cc there)
left_bytes (File others) (SymbolicLink left) bytes is there = absurd is
left_bytes (File others) (Directory directory left) bytes is there = absurd is
left_bytes (SymbolicLink others) (File left) bytes is there = absurd is
left_bytes (SymbolicLink others) (Directory directory left) bytes is there = absurd is
left_bytes (Directory parent names) (File left) bytes is there = absurd is
left_bytes (Directory parent names) (SymbolicLink left) bytes is there = absurd is

module _ (Among : ℕ → Type 0) (tells : (n : ℕ) → Among n ⊎ (Among n → ⊥)) (n : ℕ) (old new : Files) (reaped : IsReaped Among old new) where
  pub file_was : (bytes : List ℕ) → file_at new n ≡ Ok bytes → AreAsMany bytes (file_at old n)
  file_was bytes is = elim (is_orphan_or_not Among tells old n) [
    | inr not_orphan ↦
        (bytes, ap (λ o. and_then (ok_or o NoEntry) (λ (inode : Inode). bytes_in inode.content)) (sym (reaped.others n not_orphan)) ∙ is, refl)
    | inl orphan ↦
        let f = file_of (new n) bytes is in
        let l = reaped.left n orphan.inode orphan orphan.there (λ none. absurd (cc (sym f.1 ∙ none))) in
        let same : record orphan.inode { content = l.0 } ≡ f.0 = same_Some (record orphan.inode { content = l.0 }) f.0 (sym l.2 ∙ f.1) in
        let b = left_bytes orphan.inode.content l.0 bytes l.1 (ap (λ (i : Inode). bytes_in i.content) same ∙ f.2) in
        (b.0, ap (λ o. and_then (ok_or o NoEntry) (λ (inode : Inode). bytes_in inode.content)) orphan.there ∙ b.1, b.2)
  ]

-- A size is set

abbrev sized : Files → ℤ → ℕ → ℕ → Bool → Result Files Fault
sized files clock n size t = if t then Err TooLarge else Ok (changed_at files n (rewritten clock (resized size)))

-- what truncate makes of files, where it is not refused
pub truncated_is : (files after : Files) (clock : ℤ) (n size : ℕ) → truncated files clock n size ≡ Ok after →
    (bytes : List ℕ) × (file_at files n ≡ Ok bytes) × (nat_lt greatest_size size ≡ false) × (after ≡ changed_at files n (rewritten clock (resized size)))
truncated_is files after clock n size is = by (file_at files n) refl (nat_lt greatest_size size) refl is
  where
    same_ok : (a b : Files) → ◌≡◌ {A = Result Files Fault} (Ok a) (Ok b) → b ≡ a
    same_ok a b e = cc e

    by : (r : Result (List ℕ) Fault) → file_at files n ≡ r → (t : Bool) → nat_lt greatest_size size ≡ t →
        and_then r (λ old. sized files clock n size t) ≡ Ok after →
        (bytes : List ℕ) × (file_at files n ≡ Ok bytes) × (nat_lt greatest_size size ≡ false) × (after ≡ changed_at files n (rewritten clock (resized size)))
    by (Err fault) there t e is = absurd (cc is)
    by (Ok bytes) there true e is = absurd (cc is)
    by (Ok bytes) there false e is = (bytes, there, e, same_ok (changed_at files n (rewritten clock (resized size))) after is)

pub truncated_so : (files : Files) (clock : ℤ) (n size : ℕ) (bytes : List ℕ) → file_at files n ≡ Ok bytes → nat_lt greatest_size size ≡ false →
    truncated files clock n size ≡ Ok (changed_at files n (rewritten clock (resized size)))
truncated_so files clock n size bytes there small =
    ap (λ r. and_then r (λ old. sized files clock n size (nat_lt greatest_size size))) there ∙ ap (sized files clock n size) small

-- once it is done it changes nothing more
module _ (files after : Files) (clock : ℤ) (n size : ℕ) (is : truncated files clock n size ≡ Ok after) where
  abbrev change : Inode → Inode
  change = rewritten clock (resized size)

  content_twice : (content : Content) → with_bytes (resized size) (with_bytes (resized size) content) ≡ with_bytes (resized size) content
  content_twice (File bytes) = ap File (resized_twice size bytes)
  content_twice (SymbolicLink bytes) = ap SymbolicLink (resized_twice size bytes)
  content_twice (Directory parent names) = refl

  in_twice : (o : Option Inode) → changed_in change (changed_in change o) ≡ changed_in change o
  in_twice None = refl
  in_twice (Some inode) = ap (λ content. Some (record (change inode) { content = content })) (content_twice inode.content)

  twice : changed_at (changed_at files n change) n change ≡ changed_at files n change
  twice = fun_ext (λ m. elim (cases_eq m n) [
    | inl same ↦
        here_is (changed_at files n change) n change m same
        ∙ (ap (changed_in change) (here_is files n change n refl) ∙ (in_twice (files n) ∙ sym (here_is files n change m same)))
    | inr ne ↦ other_is (changed_at files n change) n change m ne
  ])

  still_file : (bytes : List ℕ) → file_at files n ≡ Ok bytes → (others : List ℕ) × (file_at (changed_at files n change) n ≡ Ok others)
  still_file bytes there =
      let f = file_of (files n) bytes there in
      let b = content_file f.0.content bytes f.2 in (
        b.0,
        ap (λ o. and_then (ok_or o NoEntry) (λ (inode : Inode). bytes_in inode.content)) (here_is files n change n refl ∙ ap (changed_in change) f.1) ∙ b.1,
      )
    where
      content_file : (content : Content) (bytes : List ℕ) → bytes_in content ≡ Ok bytes →
          (others : List ℕ) × (bytes_in (with_bytes (resized size) content) ≡ Ok others)
      content_file (File bytes) others e = (resized size bytes, refl)
      content_file (SymbolicLink bytes) others e = (resized size bytes, refl)
      content_file (Directory parent names) others e = absurd (cc e)

  pub truncated_again : truncated after clock n size ≡ Ok after
  truncated_again =
      let t = truncated_is files after clock n size is in
      let s = still_file t.0 t.1 in
      ap (λ f. truncated f clock n size) t.3 ∙ (truncated_so (changed_at files n change) clock n size s.0 s.1 t.2 ∙ ap Ok (twice ∙ sym t.3))

-- behind orphans that were freed it makes what it makes before that, but for orphans
module _ (Among : ℕ → Type 0) (tells : (n : ℕ) → Among n ⊎ (Among n → ⊥)) (old middle new : Files) (clock : ℤ) (n size : ℕ)
    (reaped : IsReaped Among old middle) (is : truncated middle clock n size ≡ Ok new) where
  pub truncated_before : (files : Files) × (truncated old clock n size ≡ Ok files) × IsReaped Among files new
  truncated_before =
      let t = truncated_is middle new clock n size is in
      let was = file_was Among tells n old middle reaped t.0 t.1 in (
        changed_at old n (rewritten clock (resized size)),
        truncated_so old clock n size was.0 was.1 t.2,
        subst (IsReaped Among (changed_at old n (rewritten clock (resized size)))) (sym t.3)
            (altered_reaped (resized size) (resized_cleared size) Among tells true clock n old middle reaped),
      )

-- Sizes that are set, and orphans that are freed, one after another

module _ (Among : ℕ → Type 0) (tells : (n : ℕ) → Among n ⊎ (Among n → ⊥)) (clock : ℤ) (n size : ℕ) where
  -- as truncated, but for orphans
  abbrev pub AreTruncated : Files → Files → Type 0
  AreTruncated old new = (files : Files) × (truncated old clock n size ≡ Ok files) × IsReaped Among files new

  abbrev pub AreSized : Files → Files → Type 0
  AreSized old new = IsReaped Among old new ⊎ AreTruncated old new

  same_ok : (a b : Files) → ◌≡◌ {A = Result Files Fault} (Ok a) (Ok b) → b ≡ a
  same_ok a b e = cc e

  pub sized_end : (old middle new : Files) → AreSized old middle → truncated middle clock n size ≡ Ok new → AreTruncated old new
  sized_end old middle new (inl reaped) is = truncated_before Among tells old middle new clock n size reaped is
  sized_end old middle new (inr (files, set, reaped)) is =
      let b = truncated_before Among tells files middle new clock n size reaped is in
      let same : b.0 ≡ files = same_ok files b.0 (sym (truncated_again old files clock n size set) ∙ b.1) in
      (files, set, subst (λ f. IsReaped Among f new) same b.2)

  pub sized_then : (old middle new : Files) → AreSized old middle → AreSized middle new → AreSized old new
  sized_then old middle new (inl first) (inl second) = inl (reaped_then Among tells old middle new first second)
  sized_then old middle new (inr (files, set, reaped)) (inl second) = inr (files, set, reaped_then Among tells files middle new reaped second)
  sized_then old middle new first (inr (files, set, reaped)) =
      let e = sized_end old middle files first set in inr (e.0, e.1, reaped_then Among tells e.0 files new e.2 reaped)
