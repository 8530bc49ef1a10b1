-- What reads of files and of symbolic links answer.
use Rattle.std.proofs.Common.{◌≡◌, ℕ, ◌+◌, ◌-◌, ◌<◌, ◌≤◌, List, length, take, drop, Result, Ok, Err, refl, sym, ◌∙◌, ap, arith, subst}
use Rattle.std.specs.Prelude.{map, min}
use Rattle.std.specs.List.{range_with_len}
use Rattle.std.proofs.lemmas.List.{drop_at, get_or-drop, get_or-take, length-drop, length-map, length-take, same_lists, take_at}
use Rattle.std.proofs.lemmas.List.FromFn.{get_or-map-range_with_len, length-range_with_len}
use Rattle.xn_model.specs.Lives.{StoreState}
use Rattle.treefs_format.specs.Fields.{fields_of}
use Rattle.treefs_format.specs.Leaves.{greatest_size}
use Rattle.treefs_format.specs.declared.fields.Fields.{Fields}
use Rattle.treefs_format.specs.declared.kind.Kind.{Kind}
use Rattle.treefs_format.specs.declared.kind.Kind.TheVariants as kind
use Rattle.treefs_model.specs.Changes.{read, target}
use Rattle.treefs_model.specs.Files.{Inode, and_then, bytes_in, file_at, found, target_in}
use Rattle.treefs_model.specs.Reading.{byte_of, bytes_of, content_at, key_in}
use Rattle.treefs_model.specs.declared.fault.Fault.{Fault}
use Rattle.treefs_lookup.specs.Bytes.{bytes_from, count_from, file_end, read_count, read_into}
use Rattle.treefs_lookup.specs.Inodes.{file_found, if_bytes, if_link, inode_found, link_found}
use Rattle.treefs_lookup.specs.Readable.{readable}
use Rattle.treefs_lookup.specs.declared.inodes.Found.{Found}
use Rattle.treefs_edits.specs.Memories.{touched_times}
use Rattle.treefs_byte_plans.specs.Attributes.{times_of}
use Rattle.treefs.specs.Reads.{with_times}
use Rattle.treefs.specs.declared.volume.Volume.{Volume}
use Rattle.treefs_values.specs.Values.{found_value}
use Rattle.treefs_values.proofs.ForCallers.{found_inode}
use Rattle.treefs_laws.specs.Kept.{files_in}
use Rattle.treefs_laws.proofs.LookUps.{told}

-- A part of the values of a function, from one on

part_long : (f : ℕ → ℕ) (size at most : ℕ) → length (take most (drop at (map f (range_with_len 0 size)))) ≡ min most (size - at)
part_long f size at most =
    length-take most (drop at (map f (range_with_len 0 size)))
    ∙ ap (min most) (length-drop at (map f (range_with_len 0 size)) ∙ ap (λ n. n - at) (length-map (range_with_len 0 size) f ∙ length-range_with_len 0 size))

from_long : (f : ℕ → ℕ) (at count : ℕ) → length (map f (range_with_len at count)) ≡ count
from_long f at count = length-map (range_with_len at count) f ∙ length-range_with_len at count

part_is : (f : ℕ → ℕ) (size at most : ℕ) → take most (drop at (map f (range_with_len 0 size))) ≡ map f (range_with_len at (min most (size - at)))
part_is f size at most =
    same_lists (take most (drop at (map f (range_with_len 0 size)))) (map f (range_with_len at (min most (size - at))))
    (part_long f size at most ∙ sym (from_long f at (min most (size - at))))
    (λ k d lt. let within : k < min most (size - at) = subst (λ n. k < n) (part_long f size at most) lt in
    get_or-take most (drop at (map f (range_with_len 0 size))) k d (omega arith)
    ∙ (get_or-drop at (map f (range_with_len 0 size)) k d
    ∙ (get_or-map-range_with_len f 0 size (at + k) (at + k) d (omega arith) (omega arith)
    ∙ sym (get_or-map-range_with_len f at (min most (size - at)) k (at + k) d within refl))))

module _ (state : StoreState) (volume : Volume) (n at : ℕ) (old : List ℕ) where
  abbrev content : ℕ → List ℕ
  content = readable state volume.tree.fs.number

  abbrev top : ℕ
  top = volume.tree.top

  abbrev key : List ℕ
  key = key_in content top

  abbrev most : ℕ
  most = length old

  -- an inode that is found, with its newest times
  abbrev pub value_of : Found → Inode
  value_of x = found_value content top (with_times x (touched_times volume.memory.touched n (times_of x.fields)))

  abbrev told_by : Result Found Fault → Result Inode Fault
  told_by r = and_then (and_then r (λ x. Ok (with_times x (touched_times volume.memory.touched n (times_of x.fields))))) (λ x. Ok (found_value content top x))

  pub found_by : (r : Result Found Fault) → inode_found content top n ≡ r → found (files_in state volume) n ≡ told_by r
  found_by r e = sym (told state volume n) ∙ ap told_by e

  abbrev said_of : Result (List ℕ) Fault → Result (List ℕ) Fault
  said_of r = and_then r (λ bytes. Ok (take most (drop at bytes)))

  -- what a read answers of a file, and what stands in its buffer
  abbrev answered : Result Found Fault → Result (List ℕ) Fault
  answered file = and_then (read_count file at most) (λ count. Ok (take count (read_into content file at old)))

  module _ (x : Found) (is : inode_found content top n ≡ Ok x) where
    same_fields : fields_of (content x.block) ≡ x.fields
    same_fields = let f = found_inode content top n x is in ap (λ b. fields_of (content b)) f.block ∙ sym f.fields

    -- its bytes, where it is not larger than a file may be
    bytes_so : x.fields.size ≤ greatest_size → answered (Ok x) ≡ said_of (Ok (bytes_of content x.block))
    bytes_so small =
        let count : ℕ = count_from x at most in
        let end : file_end x.fields.size ≡ x.fields.size = omega arith in
        let size : (fields_of (content x.block)).size ≡ x.fields.size = ap (λ (f : Fields). f.size) same_fields in
        ap Ok (take_at (bytes_from content x.block at count) (drop count old) count (from_long (byte_of content x.block) at count)
        ∙ (ap (λ s. bytes_from content x.block at (min most (s - at))) end
        ∙ (sym (part_is (byte_of content x.block) x.fields.size at most)
        ∙ sym (ap (λ s. take most (drop at (map (byte_of content x.block) (range_with_len 0 s)))) size))))

    long_so : length (bytes_of content x.block) ≡ x.fields.size
    long_so = from_long (byte_of content x.block) 0 (fields_of (content x.block)).size ∙ ap (λ (f : Fields). f.size) same_fields

  module _ (small : (bytes : List ℕ) → file_at (files_in state volume) n ≡ Ok bytes → length bytes ≤ greatest_size) where
    pub read_so : answered (file_found content top n) ≡ read (files_in state volume) n at most
    read_so = by (inode_found content top n) refl
      where
        by : (r : Result Found Fault) → inode_found content top n ≡ r → answered (file_found content top n) ≡ read (files_in state volume) n at most
        by (Err fault) e =
            ap (λ r. answered (and_then r (λ x. if_bytes x x.kind))) e
            ∙ sym (ap (λ r. said_of (and_then r (λ inode. bytes_in inode.content))) (found_by (Err fault) e))
        by (Ok x) e =
            ap (λ r. answered (and_then r (λ x. if_bytes x x.kind))) e
            ∙ (of_kind x.kind refl ∙ sym (ap (λ r. said_of (and_then r (λ inode. bytes_in inode.content))) (found_by (Ok x) e)))
          where
            fits : bytes_in (content_at content key x.block x.fields.parent x.kind) ≡ Ok (bytes_of content x.block) → x.fields.size ≤ greatest_size
            fits says = subst (λ k. k ≤ greatest_size) (long_so x e)
                (small (bytes_of content x.block) (ap (λ r. and_then r (λ inode. bytes_in inode.content)) (found_by (Ok x) e) ∙ says))

            of_kind : (k : Kind) → x.kind ≡ k → answered (if_bytes x x.kind) ≡ said_of (bytes_in (content_at content key x.block x.fields.parent x.kind))
            of_kind kind.Directory is =
                ap (λ k. answered (if_bytes x k)) is ∙ sym (ap (λ k. said_of (bytes_in (content_at content key x.block x.fields.parent k))) is)
            of_kind kind.File is =
                ap (λ k. answered (if_bytes x k)) is
                ∙ (bytes_so x e (fits (ap (λ k. bytes_in (content_at content key x.block x.fields.parent k)) is))
                ∙ sym (ap (λ k. said_of (bytes_in (content_at content key x.block x.fields.parent k))) is))
            of_kind kind.SymbolicLink is =
                ap (λ k. answered (if_bytes x k)) is
                ∙ (bytes_so x e (fits (ap (λ k. bytes_in (content_at content key x.block x.fields.parent k)) is))
                ∙ sym (ap (λ k. said_of (bytes_in (content_at content key x.block x.fields.parent k))) is))

    pub link_read_so : answered (link_found content top n) ≡ and_then (target (files_in state volume) n) (λ bytes. Ok (take most (drop at bytes)))
    link_read_so = by (inode_found content top n) refl
      where
        by : (r : Result Found Fault) → inode_found content top n ≡ r →
            answered (link_found content top n) ≡ and_then (target (files_in state volume) n) (λ bytes. Ok (take most (drop at bytes)))
        by (Err fault) e =
            ap (λ r. answered (and_then r (λ x. if_link x x.kind))) e
            ∙ sym (ap (λ r. said_of (and_then r (λ inode. target_in inode.content))) (found_by (Err fault) e))
        by (Ok x) e =
            ap (λ r. answered (and_then r (λ x. if_link x x.kind))) e
            ∙ (of_kind x.kind refl ∙ sym (ap (λ r. said_of (and_then r (λ inode. target_in inode.content))) (found_by (Ok x) e)))
          where
            fits : bytes_in (content_at content key x.block x.fields.parent x.kind) ≡ Ok (bytes_of content x.block) → x.fields.size ≤ greatest_size
            fits says = subst (λ k. k ≤ greatest_size) (long_so x e)
                (small (bytes_of content x.block) (ap (λ r. and_then r (λ inode. bytes_in inode.content)) (found_by (Ok x) e) ∙ says))

            of_kind : (k : Kind) → x.kind ≡ k → answered (if_link x x.kind) ≡ said_of (target_in (content_at content key x.block x.fields.parent x.kind))
            of_kind kind.Directory is =
                ap (λ k. answered (if_link x k)) is ∙ sym (ap (λ k. said_of (target_in (content_at content key x.block x.fields.parent k))) is)
            of_kind kind.File is =
                ap (λ k. answered (if_link x k)) is ∙ sym (ap (λ k. said_of (target_in (content_at content key x.block x.fields.parent k))) is)
            of_kind kind.SymbolicLink is =
                ap (λ k. answered (if_link x k)) is
                ∙ (bytes_so x e (fits (ap (λ k. bytes_in (content_at content key x.block x.fields.parent k)) is))
                ∙ sym (ap (λ k. said_of (target_in (content_at content key x.block x.fields.parent k))) is))

-- what stands behind in the buffer stays
pub rest_so : (content : ℕ → List ℕ) (file : Result Found Fault) (at : ℕ) (old : List ℕ) →
    and_then (read_count file at (length old)) (λ count. Ok (drop count (read_into content file at old)))
    ≡ and_then (read_count file at (length old)) (λ count. Ok (drop count old))
rest_so content (Err fault) at old = refl
rest_so content (Ok x) at old =
    let count : ℕ = count_from x at (length old) in
    ap Ok (drop_at (bytes_from content x.block at count) (drop count old) count (from_long (byte_of content x.block) at count))
