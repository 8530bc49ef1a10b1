-- A file has no more bytes than one may have, also once names, bytes or attributes change, or orphans are gone.
use Rattle.std.proofs.Common.{◌≡◌, ◌⊎◌, ℕ, ℤ, ◌+◌, ◌-◌, ◌<◌, ◌≤◌, Bool, true, false, ◌&&◌, List, [], ◌++◌, length, drop, take, Option, None, Some, Result, Ok, Err, refl, sym, ◌∙◌, ap, inl, inr, arith, subst, if◌then◌else◌, length-append, length-drop}
use Rattle.std.specs.Prelude.{max, nat_le, nat_lt, not, replicate, slice_index, ◌==◌}
use Rattle.std.specs.Option.{ok_or}
use Rattle.std.proofs.lemmas.Bool.{cases_eq, cases_lt, eq-eqb, ltb-false, ne_eqb}
use Rattle.std.proofs.lemmas.List.{length-replicate, length-take}
use Rattle.std.proofs.lemmas.List.FromFn.{length-map-range_with_len}
use Rattle.std.proofs.lemmas.Option.{same_Some}
use Rattle.xn_model.specs.Lives.{StoreState}
use Rattle.treefs_format.specs.Leaves.{greatest_size}
use Rattle.treefs_format.specs.Names.{is_name}
use Rattle.treefs_model.specs.Changes.{less_links, linkable, linked, lost, made, marked, may_go, more_links, move_name, moved, moved_to, new_name, overwritten, removed, renamed, replaceable, replaced, resized, rewritten, touched, truncated, unlinked, with_bytes, with_mtime, without_name, written}
use Rattle.treefs_model.specs.Files.{Content, Directory, File, Files, Inode, SymbolicLink, and_then, bytes_in, changed_at, changed_in, directory_at, file_at, found, is_directory, names_for, number_in, renamed_in, when, with_entry, with_inode, with_name}
use Rattle.treefs_model.specs.declared.fault.Fault.{Fault}
use Rattle.treefs_model.specs.declared.fault.Fault.TheVariants.{BadName, Cycle, IsDir, NoEntry, NotDir, NotEmpty, TooLarge}
use Rattle.treefs_byte_plans.specs.declared.attributes.Attributes.{Attributes}
use Rattle.treefs_byte_plans.specs.declared.attributes.Owner.{Owner}
use Rattle.treefs_values.specs.Bytes.{byte_over, put_within, with_put}
use Rattle.treefs.specs.declared.attributes.Attributes.{Attributes as NewAttributes}
use Rattle.treefs.specs.declared.volume.Volume.{Volume}
use Rattle.treefs_laws.specs.Begun.{IsBegun}
use Rattle.treefs_laws.specs.Making.{new_inode}
use Rattle.treefs_laws.specs.Orphans.{IsLeftOf, IsOrphan, IsReaped}
use Rattle.treefs_laws.specs.Overwriting.{IsPartlyPut}
use Rattle.treefs_laws.specs.Reading.{HasFewBytes, IsOfFewBytes}
use Rattle.treefs_laws.specs.Setting.{with_attributes, with_some_mtime, with_some_owner, with_some_permissions}
use Rattle.treefs_laws.proofs.Planned.{same_done, then_ok}

-- One inode is changed

abbrev IsFew : Option Inode → Type 0
IsFew o = (bytes : List ℕ) → and_then (ok_or o NoEntry) (λ (inode : Inode). bytes_in inode.content) ≡ Ok bytes → length bytes ≤ greatest_size

changed_few : (change : Inode → Inode) → ((inode : Inode) → IsOfFewBytes inode → IsOfFewBytes (change inode)) → (o : Option Inode) → IsFew o →
    IsFew (changed_in change o)
changed_few change keeps None few bytes is = absurd (cc is)
changed_few change keeps (Some inode) few bytes is = keeps inode few bytes is

few_with : (files : Files) (n : ℕ) (o : Option Inode) (m : ℕ) → IsFew o → HasFewBytes files m → HasFewBytes (with_inode files n o) m
few_with files n o m new few = elim (cases_eq m n) [
  | inl same ↦ subst IsFew (sym (ap (λ t. if t then o else files m) (eq-eqb m n same))) new
  | inr ne ↦ subst IsFew (sym (ap (λ t. if t then o else files m) (ne_eqb m n ne))) few
]

few_at : (files : Files) (n : ℕ) (change : Inode → Inode) → ((inode : Inode) → IsOfFewBytes inode → IsOfFewBytes (change inode)) → (m : ℕ) →
    HasFewBytes files m → HasFewBytes (changed_at files n change) m
few_at files n change keeps m few = elim (cases_eq m n) [
  | inl same ↦
      subst IsFew (sym (ap (λ t. if t then changed_in change (files n) else files m) (eq-eqb m n same)))
      (changed_few change keeps (files n) (subst (λ k. IsFew (files k)) same few))
  | inr ne ↦ subst IsFew (sym (ap (λ t. if t then changed_in change (files n) else files m) (ne_eqb m n ne))) few
]

-- its bytes stay
same_few : (inode later : Inode) → bytes_in later.content ≡ bytes_in inode.content → IsOfFewBytes inode → IsOfFewBytes later
same_few inode later same few bytes is = few bytes (sym same ∙ is)

touched_few : (time : ℤ) (inode : Inode) → IsOfFewBytes inode → IsOfFewBytes (touched time inode)
touched_few time inode few = same_few inode (touched time inode) refl few

entry_bytes : (name : List ℕ) (number : Option ℕ) (content : Content) → bytes_in (with_entry name number content) ≡ bytes_in content
entry_bytes name number (Directory parent names) = refl
entry_bytes name number (File bytes) = refl
entry_bytes name number (SymbolicLink bytes) = refl

entry_few : (name : List ℕ) (number : Option ℕ) (inode : Inode) → IsOfFewBytes inode → IsOfFewBytes (renamed_in name number inode)
entry_few name number inode few = same_few inode (renamed_in name number inode) (entry_bytes name number inode.content) few

less_few : (time : ℤ) (inode : Inode) → IsOfFewBytes inode → IsOfFewBytes (less_links time inode)
less_few time inode few = by (nat_le inode.links 1)
  where
    by : (t : Bool) → IsOfFewBytes (if t then record inode { links = 0 } else record (marked time inode) { links = inode.links - 1 })
    by true = same_few inode (record inode { links = 0 }) refl few
    by false = same_few inode (record (marked time inode) { links = inode.links - 1 }) refl few

moved_bytes : (d : ℕ) (content : Content) → bytes_in (moved_to d content) ≡ bytes_in content
moved_bytes d (Directory parent names) = refl
moved_bytes d (File bytes) = refl
moved_bytes d (SymbolicLink bytes) = refl

moved_few : (time : ℤ) (d : ℕ) (inode : Inode) → IsOfFewBytes inode → IsOfFewBytes (moved time d inode)
moved_few time d inode few = same_few inode (moved time d inode) (moved_bytes d inode.content) few

attributes_bytes : (time : ℤ) (attributes : Attributes) (inode : Inode) → bytes_in (with_attributes time attributes inode).content ≡ bytes_in inode.content
attributes_bytes time attributes inode =
    at_time attributes.mtime (with_some_owner attributes.owner (with_some_permissions attributes.permissions (marked time inode)))
    ∙ (at_owner attributes.owner (with_some_permissions attributes.permissions (marked time inode))
    ∙ at_permissions attributes.permissions (marked time inode))
  where
    at_time : (mtime : Option ℤ) (inode : Inode) → bytes_in (with_some_mtime mtime inode).content ≡ bytes_in inode.content
    at_time None inode = refl
    at_time (Some mtime) inode = refl

    at_owner : (owner : Option Owner) (inode : Inode) → bytes_in (with_some_owner owner inode).content ≡ bytes_in inode.content
    at_owner None inode = refl
    at_owner (Some owner) inode = refl

    at_permissions : (permissions : Option ℕ) (inode : Inode) → bytes_in (with_some_permissions permissions inode).content ≡ bytes_in inode.content
    at_permissions None inode = refl
    at_permissions (Some permissions) inode = refl

pub attributes_few : (files : Files) (time : ℤ) (n : ℕ) (attributes : Attributes) (m : ℕ) → HasFewBytes files m →
    HasFewBytes (changed_at files n (with_attributes time attributes)) m
attributes_few files time n attributes m few =
    few_at files n (with_attributes time attributes)
    (λ inode f. same_few inode (with_attributes time attributes inode) (attributes_bytes time attributes inode) f) m few

pub mtime_few : (files : Files) (time mtime : ℤ) (n m : ℕ) → HasFewBytes files m → HasFewBytes (changed_at files n (with_mtime time mtime)) m
mtime_few files time mtime n m few = few_at files n (with_mtime time mtime) (λ inode f. same_few inode (with_mtime time mtime inode) refl f) m few

-- Names

named_few : (files : Files) (d : ℕ) (name : List ℕ) (number : Option ℕ) (m : ℕ) → HasFewBytes files m → HasFewBytes (with_name files d name number) m
named_few files d name number m few = few_at files d (renamed_in name number) (entry_few name number) m few

pub made_few : (files : Files) (time : ℤ) (d : ℕ) (name : List ℕ) (n : ℕ) (inode : Inode) (m : ℕ) → IsOfFewBytes inode → HasFewBytes files m →
    HasFewBytes (made files time d name n inode) m
made_few files time d name n inode m new few =
    few_at (with_name (with_inode files n (Some inode)) d name (Some n)) d (touched time) (touched_few time) m
    (named_few (with_inode files n (Some inode)) d name (Some n) m (few_with files n (Some inode) m new few))

lost_few : (files : Files) (time : ℤ) (o : Option ℕ) (m : ℕ) → HasFewBytes files m → HasFewBytes (lost files time o) m
lost_few files time None m few = few
lost_few files time (Some n) m few = few_at files n (less_links time) (less_few time) m few

-- of what is done
done_few : (x files : Files) (m : ℕ) → ◌≡◌ {A = Result Files Fault} (Ok x) (Ok files) → HasFewBytes x m → HasFewBytes files m
done_few x files m is few = subst (λ (g : Files). HasFewBytes g m) (same_done x files is) few

if_done : {A : Type 0} (t : Bool) (x y : Result A Fault) (z : A) → (if t then x else y) ≡ Ok z → (x ≡ Ok z) ⊎ (y ≡ Ok z)
if_done true x y z is = inl is
if_done false x y z is = inr is

pub replaced_few : (files files' : Files) (time : ℤ) (d : ℕ) (name : List ℕ) (n : ℕ) (inode : Inode) (m : ℕ) → replaced files time d name n inode ≡ Ok files' →
    IsOfFewBytes inode → HasFewBytes files m → HasFewBytes files' m
replaced_few files files' time d name n inode m is new few =
    let a = then_ok (names_for files d name)
    (λ names. and_then (replaceable files (names name)) (λ m. Ok (lost (made files time d name n inode) time m))) files' is in
    let b = then_ok (replaceable files (a.0 name)) (λ m. Ok (lost (made files time d name n inode) time m)) files' a.2 in
    done_few (lost (made files time d name n inode) time b.0) files' m b.2
    (lost_few (made files time d name n inode) time b.0 m (made_few files time d name n inode m new few))

pub linked_few : (files files' : Files) (time : ℤ) (n d : ℕ) (name : List ℕ) (m : ℕ) → linked files time n d name ≡ Ok files' → HasFewBytes files m →
    HasFewBytes files' m
linked_few files files' time n d name m is few =
    let there = changed_at (with_name (changed_at files n (more_links time)) d name (Some n)) d (touched time) in
    let a = then_ok (directory_at files d) (λ directory. and_then (found files n) (λ inode. and_then (linkable inode)
    (λ fine. and_then (new_name files d name) (λ new. Ok there)))) files' is in
    let b = then_ok (found files n) (λ inode. and_then (linkable inode) (λ fine. and_then (new_name files d name) (λ new. Ok there))) files' a.2 in
    let c = then_ok (linkable b.0) (λ fine. and_then (new_name files d name) (λ new. Ok there)) files' b.2 in
    let e = then_ok (new_name files d name) (λ new. Ok there) files' c.2 in
    done_few there files' m e.2
    (few_at (with_name (changed_at files n (more_links time)) d name (Some n)) d (touched time) (touched_few time) m
    (named_few (changed_at files n (more_links time)) d name (Some n) m
    (few_at files n (more_links time) (λ inode f. same_few inode (more_links time inode) refl f) m few)))

without_few : (files : Files) (time : ℤ) (d : ℕ) (name : List ℕ) (n m : ℕ) → HasFewBytes files m → HasFewBytes (without_name files time d name n) m
without_few files time d name n m few =
    few_at (changed_at (with_name files d name None) n (less_links time)) d (touched time) (touched_few time) m
    (few_at (with_name files d name None) n (less_links time) (less_few time) m (named_few files d name None m few))

pub unlinked_few : (files files' : Files) (time : ℤ) (d : ℕ) (name : List ℕ) (m : ℕ) → unlinked files time d name ≡ Ok files' → HasFewBytes files m →
    HasFewBytes files' m
unlinked_few files files' time d name m is few =
    let a = then_ok (number_in files d name) (λ n. and_then (found files n)
    (λ (inode : Inode). if is_directory inode.content then Err IsDir else Ok (without_name files time d name n))) files' is in
    let b = then_ok (found files a.0) (λ (inode : Inode). if is_directory inode.content then Err IsDir else Ok (without_name files time d name a.0)) files'
    a.2 in
    elim (if_done (is_directory b.0.content) (Err IsDir) (Ok (without_name files time d name a.0)) files' b.2) [
      | inl e ↦ absurd (cc e)
      | inr e ↦ done_few (without_name files time d name a.0) files' m e (without_few files time d name a.0 m few)
    ]

pub removed_few : (files files' : Files) (time : ℤ) (d : ℕ) (name : List ℕ) (empty : Bool) (m : ℕ) → removed files time d name empty ≡ Ok files' →
    HasFewBytes files m → HasFewBytes files' m
removed_few files files' time d name empty m is few =
    let a = then_ok (number_in files d name) (λ n. and_then (found files n)
    (λ (inode : Inode). if not (is_directory inode.content) then Err NotDir else when empty (without_name files time d name n) NotEmpty)) files' is in
    let b = then_ok (found files a.0) (λ (inode : Inode). if not (is_directory inode.content) then Err NotDir else when empty
    (without_name files time d name a.0) NotEmpty) files' a.2 in
    elim (if_done (not (is_directory b.0.content)) (Err NotDir) (when empty (without_name files time d name a.0) NotEmpty) files' b.2) [
      | inl e ↦ absurd (cc e)
      | inr e ↦ elim (if_done empty (Ok (without_name files time d name a.0)) (Err NotEmpty) files' e) [
        | inl done ↦ done_few (without_name files time d name a.0) files' m done (without_few files time d name a.0 m few)
        | inr e ↦ absurd (cc e)
      ]
    ]

move_few : (files : Files) (time : ℤ) (d : ℕ) (name : List ℕ) (to : ℕ) (new : List ℕ) (n : ℕ) (o : Option ℕ) (m : ℕ) → HasFewBytes files m →
    HasFewBytes (move_name files time d name to new n o) m
move_few files time d name to new n o m few =
    let there : Files = with_name (with_name files d name None) to new (Some n) in
    let gone : Files = lost (changed_at there n (moved time to)) time o in
    few_at (changed_at gone d (touched time)) to (touched time) (touched_few time) m
    (few_at gone d (touched time) (touched_few time) m
    (lost_few (changed_at there n (moved time to)) time o m
    (few_at there n (moved time to) (moved_few time to) m
    (named_few (with_name files d name None) to new (Some n) m (named_few files d name None m few)))))

abbrev leads : Option ℕ → ℕ → Bool
leads None n = false
leads (Some m) n = m == n

pub renamed_few : (files files' : Files) (time : ℤ) (d : ℕ) (name : List ℕ) (to : ℕ) (new : List ℕ) (below empty : Bool) (m : ℕ) →
    renamed files time d name to new below empty ≡ Ok files' → HasFewBytes files m → HasFewBytes files' m
renamed_few files files' time d name to new below empty m is few =
    let a = then_ok (directory_at files d) _ files' is in
    let b = then_ok (directory_at files to) _ files' a.2 in
    let c = then_ok (when (is_name name && is_name new) (tt {0}) BadName) _ files' b.2 in
    let e = then_ok (ok_or (a.0 name) NoEntry) _ files' c.2 in
    let f = then_ok (found files e.0) _ files' e.2 in
    let moves : Result Files Fault = and_then (may_go files f.0 (b.0 new) empty) (λ m. Ok (move_name files time d name to new e.0 m)) in
    elim (if_done below (Err Cycle) (if leads (b.0 new) e.0 then Ok files else moves) files' f.2) [
      | inl refused ↦ absurd (cc refused)
      | inr goes ↦ elim (if_done (leads (b.0 new) e.0) (Ok files) moves files' goes) [
        | inl same ↦ done_few files files' m same few
        | inr moved ↦
            let g = then_ok (may_go files f.0 (b.0 new) empty) (λ m. Ok (move_name files time d name to new e.0 m)) files' moved in
            done_few (move_name files time d name to new e.0 g.0) files' m g.2 (move_few files time d name to new e.0 g.0 m few)
      ]
    ]

-- Bytes

bytes_few : (change : List ℕ → List ℕ) → ((bytes : List ℕ) → length bytes ≤ greatest_size → length (change bytes) ≤ greatest_size) → (inode : Inode) →
    IsOfFewBytes inode → (later : Inode) → later.content ≡ with_bytes change inode.content → IsOfFewBytes later
bytes_few change keeps inode few later is bytes there = by inode.content few (sym (ap bytes_in is) ∙ there)
  where
    by : (content : Content) → ((bytes : List ℕ) → bytes_in content ≡ Ok bytes → length bytes ≤ greatest_size) → bytes_in (with_bytes change content) ≡ Ok bytes →
        length bytes ≤ greatest_size
    by (File old) few e = subst (λ b. length b ≤ greatest_size) (same_done (change old) bytes e) (keeps old (few old refl))
    by (SymbolicLink old) few e = subst (λ b. length b ≤ greatest_size) (same_done (change old) bytes e) (keeps old (few old refl))
    by (Directory parent names) few e = absurd (cc e)

rewritten_few : (files : Files) (time : ℤ) (n : ℕ) (change : List ℕ → List ℕ) →
    ((bytes : List ℕ) → length bytes ≤ greatest_size → length (change bytes) ≤ greatest_size) → (m : ℕ) → HasFewBytes files m →
    HasFewBytes (changed_at files n (rewritten time change)) m
rewritten_few files time n change keeps m few =
    few_at files n (rewritten time change) (λ inode f. bytes_few change keeps inode f (rewritten time change inode) refl) m few

resized_long : (size : ℕ) (bytes : List ℕ) → length (resized size bytes) ≡ size
resized_long size bytes =
    length-append (take size bytes) (replicate (size - length bytes) 0)
    ∙ (ap (λ k. length (take size bytes) + k) (length-replicate (size - length bytes) 0) ∙ (let front = length-take size bytes in omega arith))

overwritten_long : (at : ℕ) (new bytes : List ℕ) → length (overwritten bytes at new) ≡ max (length bytes) (at + length new)
overwritten_long at new bytes =
    let front = resized_long at bytes in
    let first = length-append (resized at bytes) new in
    let rest = length-drop (at + length new) bytes in
    let whole = length-append (resized at bytes ++ new) (drop (at + length new) bytes) in
    omega arith

pub truncated_few : (files files' : Files) (time : ℤ) (n size m : ℕ) → truncated files time n size ≡ Ok files' → HasFewBytes files m → HasFewBytes files' m
truncated_few files files' time n size m is few =
    let a = then_ok (file_at files n) (λ old. if nat_lt greatest_size size then Err TooLarge
    else Ok (changed_at files n (rewritten time (resized size)))) files' is in
    by (nat_lt greatest_size size) refl a.2
  where
    by : (t : Bool) → nat_lt greatest_size size ≡ t →
        ◌≡◌ {A = Result Files Fault} (if t then Err TooLarge else Ok (changed_at files n (rewritten time (resized size)))) (Ok files') → HasFewBytes files' m
    by true e done = absurd (cc done)
    by false e done =
        let small = ltb-false greatest_size size e in
        done_few (changed_at files n (rewritten time (resized size))) files' m done
        (rewritten_few files time n (resized size) (λ bytes f. let l = resized_long size bytes in omega arith) m few)

pub written_few : (files files' : Files) (time : ℤ) (n at : ℕ) (bytes : List ℕ) (taken m : ℕ) → written files time n at bytes taken ≡ Ok files' →
    at + taken ≤ greatest_size → HasFewBytes files m → HasFewBytes files' m
written_few files files' time n at bytes taken m is end few =
    let over : Files = changed_at files n (rewritten time (λ b. overwritten b at (take taken bytes))) in
    let a = then_ok (file_at files n) (λ old. if nat_le greatest_size at then Err TooLarge else if (length bytes == 0) then Ok files else Ok over) files' is in
    elim (if_done (nat_le greatest_size at) (Err TooLarge) (if (length bytes == 0) then Ok files else Ok over) files' a.2) [
      | inl e ↦ absurd (cc e)
      | inr low ↦ elim (if_done (length bytes == 0) (Ok files) (Ok over) files' low) [
        | inl same ↦ done_few files files' m same few
        | inr done ↦
            done_few over files' m done (rewritten_few files time n (λ b. overwritten b at (take taken bytes))
            (λ b f. let l = overwritten_long at (take taken bytes) b in let t = length-take taken bytes in omega arith) m few)
      ]
    ]

pub put_few : (files files' : Files) (n at : ℕ) (bytes : List ℕ) (m : ℕ) → IsPartlyPut files n at bytes files' → HasFewBytes files m → HasFewBytes files' m
put_few files files' n at bytes m (count, less, is) few =
    subst (λ (g : Files). HasFewBytes g m) (sym is)
    (few_at files n (with_put at (take count bytes))
    (λ inode f. bytes_few (put_within at (take count bytes)) (λ old g. let l = long (take count bytes) old in omega arith) inode f
    (with_put at (take count bytes) inode) refl) m few)
  where
    long : (new old : List ℕ) → length (put_within at new old) ≡ length old
    long new old = length-map-range_with_len (byte_over at new (slice_index old)) 0 (length old)

-- Orphans

left_few : (content left : Content) (bytes : List ℕ) → IsLeftOf content left → ((bytes : List ℕ) → bytes_in content ≡ Ok bytes → length bytes ≤ greatest_size) →
    bytes_in left ≡ Ok bytes → length bytes ≤ greatest_size
left_few (File others) (File left) bytes is few there =
    let same = ap length (same_done left bytes there) in let long = is.0 in let f = few others refl in omega arith
left_few (SymbolicLink others) (SymbolicLink left) bytes is few there =
    let same = ap length (same_done left bytes there) in let long = is.0 in let f = few others refl in omega arith
left_few (Directory parent names) (Directory directory left) bytes is few there = absurd (cc there)
left_few (File others) (SymbolicLink left) bytes is few there = absurd is
left_few (File others) (Directory directory left) bytes is few there = absurd is
left_few (SymbolicLink others) (File left) bytes is few there = absurd is
left_few (SymbolicLink others) (Directory directory left) bytes is few there = absurd is
left_few (Directory parent names) (File left) bytes is few there = absurd is
left_few (Directory parent names) (SymbolicLink left) bytes is few there = absurd is

pub reaped_few : (Among : ℕ → Type 0) (old new : Files) (m : ℕ) → IsReaped Among old new → HasFewBytes old m → HasFewBytes new m
reaped_few Among old new m reaped few bytes is = elim (cases_lt greatest_size (length bytes)) [
  | inr le ↦ le
  | inl more ↦
      absurd (too_many more (few bytes (ap (λ o. and_then (ok_or o NoEntry) (λ (inode : Inode). bytes_in inode.content))
      (sym (reaped.others m (λ orphan. too_many more (of_orphan orphan (new m) refl)))) ∙ is)))
]
  where
    too_many : greatest_size < length bytes → length bytes ≤ greatest_size → ⊥
    too_many more le = absurd (omega arith)

    of_orphan : IsOrphan Among old m → (o : Option Inode) → new m ≡ o → length bytes ≤ greatest_size
    of_orphan orphan None there = absurd (cc (sym (ap (λ o. and_then (ok_or o NoEntry) (λ (inode : Inode). bytes_in inode.content)) there) ∙ is))
    of_orphan orphan (Some inode) there =
        let l = reaped.left m orphan.inode orphan orphan.there (λ none. absurd (cc (sym there ∙ none))) in
        let same : record orphan.inode { content = l.0 } ≡ inode = same_Some (record orphan.inode { content = l.0 }) inode (sym l.2 ∙ there) in
        left_few orphan.inode.content l.0 bytes l.1
        (λ b e. few b (ap (λ o. and_then (ok_or o NoEntry) (λ (i : Inode). bytes_in i.content)) orphan.there ∙ e))
        (ap (λ (i : Inode). bytes_in i.content) same
        ∙ (sym (ap (λ o. and_then (ok_or o NoEntry) (λ (i : Inode). bytes_in i.content)) there) ∙ is))

-- New inodes

pub empty_few : (time : ℤ) (attributes : NewAttributes) → IsOfFewBytes (new_inode time attributes (File []))
empty_few time attributes bytes is = let none = ap length (same_done [] bytes is) in omega arith

pub link_few : (time : ℤ) (attributes : NewAttributes) (target : List ℕ) → length target ≤ 384 → IsOfFewBytes (new_inode time attributes (SymbolicLink target))
link_few time attributes target short bytes is = let same = ap length (same_done target bytes is) in omega arith

pub directory_few : (time : ℤ) (attributes : NewAttributes) (d : ℕ) → IsOfFewBytes (new_inode time attributes (Directory d (λ x. None)))
directory_few time attributes d bytes is = absurd (cc is)

pub begun_few : (state : StoreState) (volume : Volume) (block : ℕ) (inode : Inode) → IsBegun state volume block inode → IsOfFewBytes inode
begun_few state volume block inode begun bytes is =
    let same = ap length (same_done bytes begun.bytes (sym is ∙ begun.bytes_are)) in let few = begun.few in omega arith
