-- What an inode that was begun says, as inode 1 of a volume of its own.
use Rattle.std.proofs.Common.{◌≡◌, ◌≢◌, ℕ, ◌≤◌, List, [], length, Option, None, Some, Ok, refl, sym, ◌∙◌, ap, arith, subst}
use Rattle.std.specs.Prelude.{option_map}
use Rattle.std.proofs.lemmas.List.FromFn.{length-map-range_with_len}
use Rattle.std.proofs.lemmas.Option.{same_Some}
use Rattle.xn_model.specs.Types.{Types}
use Rattle.xn_model.specs.Lives.{StoreState}
use Rattle.treefs_format.specs.Fields.{fields_of}
use Rattle.treefs_format.specs.Inodes.{kind_of}
use Rattle.treefs_format.specs.Leaves.{greatest_size}
use Rattle.treefs_format.specs.declared.fields.Fields.{Fields}
use Rattle.treefs_format.specs.declared.kind.Kind.{Kind}
use Rattle.treefs_format.specs.declared.kind.Kind.TheVariants as kind
use Rattle.treefs_model.specs.Files.{Inode, bytes_in}
use Rattle.treefs_model.specs.Reading.{byte_of, bytes_of, content_at, files_of, inode_of, inode_with, key_in}
use Rattle.treefs_lookup.specs.Readable.{readable}
use Rattle.treefs.specs.declared.volume.Volume.{Volume}
use Rattle.treefs_values.specs.Kinds.{kinds}
use Rattle.treefs_values.specs.Volumes.{IsVolume}
use Rattle.treefs_values.specs.Ways.{block_numbered}
use Rattle.treefs_values.proofs.ForCallers.{IsAlike, file_read}
use Rattle.treefs_laws.specs.Begun.{IsBegun}
use Rattle.treefs_laws.specs.Open.{IsOpen}
use Rattle.treefs_laws.specs.Unnamed.{IsReadAlike, IsUnnamed}
use Rattle.treefs_laws.proofs.AsideTree.{IsAside}
use Rattle.treefs_laws.proofs.AsideVolume.{unnamed_aside}
use Rattle.treefs_laws.proofs.BlockAside.{alike_inode}
use Rattle.treefs_laws.proofs.OverFile.{IsOver, over_none}
use Rattle.treefs_laws.proofs.OwnVolume.{other_same, own_content, own_number, own_root, own_type, own_volume, same_alike}
use Rattle.treefs_laws.proofs.Planned.{same_done}

-- An inode with bytes says the same with any key

module _ (content : ℕ → List ℕ) (key : List ℕ) (c : ℕ) (inode : Inode) (says : inode_of content key c ≡ Some inode) (bytes : List ℕ)
    (bytes_are : bytes_in inode.content ≡ Ok bytes) where
  abbrev fields : Fields
  fields = fields_of (content c)

  pub record IsSaid : Type 0 where
    pub of_kind : Kind
    pub no_directory : of_kind ≢ kind.Directory
    pub kind_is : kind_of fields.mode ≡ Some of_kind
    pub value : inode_with fields (content_at content key c fields.parent of_kind) ≡ inode
    pub bytes_same : bytes_of content c ≡ bytes

  pub said : IsSaid
  said = by (kind_of fields.mode) refl says
    where
      of : (k : Kind) → kind_of fields.mode ≡ Some k → inode_with fields (content_at content key c fields.parent k) ≡ inode →
          bytes_in (content_at content key c fields.parent k) ≡ Ok bytes → IsSaid
      of kind.Directory is same b = absurd (cc b)
      of kind.File is same b = record {
        of_kind = kind.File;
        no_directory = λ z. absurd (cc z);
        kind_is = is;
        value = same;
        bytes_same = same_done (bytes_of content c) bytes b;
      }
      of kind.SymbolicLink is same b = record {
        of_kind = kind.SymbolicLink;
        no_directory = λ z. absurd (cc z);
        kind_is = is;
        value = same;
        bytes_same = same_done (bytes_of content c) bytes b;
      }

      by : (o : Option Kind) → kind_of fields.mode ≡ o → option_map (λ k. inode_with fields (content_at content key c fields.parent k)) o ≡ Some inode → IsSaid
      by None is e = absurd (cc e)
      by (Some k) is e =
          let same = same_Some (inode_with fields (content_at content key c fields.parent k)) inode e in
          of k is same (ap (λ (i : Inode). bytes_in i.content) same ∙ bytes_are)

  pub size_is : fields.size ≡ length bytes
  size_is = sym (length-map-range_with_len (byte_of content c) 0 fields.size) ∙ ap length said.bytes_same

  pub any_key : (other : List ℕ) → inode_of content other c ≡ Some inode
  any_key other =
      ap (option_map (λ k. inode_with fields (content_at content other c fields.parent k))) said.kind_is
      ∙ ap Some (ap (inode_with fields) (by said.of_kind said.no_directory) ∙ said.value)
    where
      by : (k : Kind) → k ≢ kind.Directory → content_at content other c fields.parent k ≡ content_at content key c fields.parent k
      by kind.Directory other_kind = absurd (other_kind refl)
      by kind.File other_kind = refl
      by kind.SymbolicLink other_kind = refl

-- One that was begun says the same where it is read alike

abbrev pub begun_read : (old new : StoreState) (v v' : Volume) (c : ℕ) (inode_now : Inode) → IsBegun old v c inode_now → IsUnnamed new v' c →
    IsAlike (readable old v.tree.fs.number) (readable new v'.tree.fs.number) c → IsBegun new v' c inode_now
begun_read old new v v' c inode_now begun unnamed alike = record {
  unnamed = unnamed;
  within = begun.within;
  says = alike_inode (readable old v.tree.fs.number) (readable new v'.tree.fs.number) c alike (key_in (readable new v'.tree.fs.number) v'.tree.top)
      ∙ any_key (readable old v.tree.fs.number) (key_in (readable old v.tree.fs.number) v.tree.top) c inode_now begun.says begun.bytes begun.bytes_are
      (key_in (readable new v'.tree.fs.number) v'.tree.top);
  bytes = begun.bytes;
  bytes_are = begun.bytes_are;
  few = begun.few;
}

pub still_begun : (old new : StoreState) (v v' : Volume) (c : ℕ) (inode_now : Inode) → IsBegun old v c inode_now → IsUnnamed new v' c →
    IsReadAlike (readable old v.tree.fs.number) (readable new v'.tree.fs.number) c → IsBegun new v' c inode_now
still_begun old new v v' c inode_now begun unnamed alike =
    begun_read old new v v' c inode_now begun unnamed (record { own = alike.own; leaves = alike.leaves; bytes = alike.bytes })

-- In a volume of its own

module _ (T : Types) (state : StoreState) (volume : Volume) (is_open : IsOpen T state volume) (c : ℕ) (inode_now : Inode)
    (begun : IsBegun state volume c inode_now) where
  abbrev pub fs : ℕ
  fs = volume.tree.fs.number

  abbrev pub node : ℕ
  node = volume.tree.node_type

  abbrev pub inode : ℕ
  inode = volume.tree.inode_type

  abbrev pub content : ℕ → List ℕ
  content = readable state fs

  pub aside : IsAside node inode volume.tree.top c (kinds state fs) content
  aside = unnamed_aside T state volume c is_open begun.unnamed

  abbrev pub own : ℕ → List ℕ
  own = own_content node inode volume.tree.top c content

  pub c_there : c ≢ 0
  c_there = begun.unnamed.there

  pub c_other : c ≢ own_root
  c_other same = let low = begun.within in absurd (omega (arith, same, low))

  pub own_same : own c ≡ content c
  own_same = other_same node inode volume.tree.top c (kinds state fs) content aside begun.within c c_other

  -- it says the same there
  pub own_says : inode_of own (key_in own own_root) c ≡ Some inode_now
  own_says =
      alike_inode content own c (same_alike node inode volume.tree.top c (kinds state fs) content aside begun.within own
      (other_same node inode volume.tree.top c (kinds state fs) content aside begun.within)) (key_in own own_root)
      ∙ any_key content (key_in content volume.tree.top) c inode_now begun.says begun.bytes begun.bytes_are (key_in own own_root)

  pub own_said : IsSaid own (key_in own own_root) c inode_now own_says begun.bytes begun.bytes_are
  own_said = said own (key_in own own_root) c inode_now own_says begun.bytes begun.bytes_are

  pub own_size : (fields_of (own c)).size ≡ length begun.bytes
  own_size = size_is own (key_in own own_root) c inode_now own_says begun.bytes begun.bytes_are

  pub own_small : (fields_of (own c)).size ≤ greatest_size
  own_small = subst (λ s. s ≤ greatest_size) (sym own_size) begun.few

  abbrev pub k : Kind
  k = own_said.of_kind

  pub one : ◌≢◌ {A = ℕ} 1 0
  one z = absurd (omega (arith, z))

  pub is_volume : IsVolume node inode (own_type node inode volume.tree.top c (kinds state fs)) own own_root
  is_volume = own_volume node inode volume.tree.top c (kinds state fs) content aside begun.within k
      (ap (λ m. kind_of (fields_of m).mode) (sym own_same) ∙ own_said.kind_is) own_said.no_directory

  pub number_is : block_numbered own own_root 1 ≡ c
  number_is = own_number node inode volume.tree.top c (kinds state fs) content aside begun.within

  pub own_file : files_of own own_root 1 ≡ Some inode_now
  own_file = file_read own own_root 1 c number_is c_there ∙ own_says

  -- its bytes from one on
  module _ (at : ℕ) where
    abbrev pub Over : (ℕ → ℕ) → List ℕ → (ℕ → List ℕ) → Type 0
    Over type bytes m = IsOver node inode own_root 1 one c c_there k own_said.no_directory own number_is own_said.kind_is own_small at type bytes m

    pub over_first : Over (own_type node inode volume.tree.top c (kinds state fs)) [] own
    over_first = over_none node inode own_root 1 one c c_there k own_said.no_directory own number_is own_said.kind_is own_small at
        (own_type node inode volume.tree.top c (kinds state fs)) is_volume

  -- Once it says something else there

  module _ (new : StoreState) (open_new : IsOpen T new volume) (unnamed : IsUnnamed new volume c) (m : ℕ → List ℕ)
      (same : (x : ℕ) → x ≢ own_root → m x ≡ readable new fs x) (number : block_numbered m own_root 1 ≡ c) (after : Inode)
      (file : files_of m own_root 1 ≡ Some after) (bytes : List ℕ) (bytes_are : bytes_in after.content ≡ Ok bytes) (few : length bytes ≤ greatest_size) where
    pub begun_then : IsBegun new volume c after
    begun_then =
        let read = file_read m own_root 1 c number c_there in
        let alike = same_alike node inode volume.tree.top c (kinds new fs) (readable new fs) (unnamed_aside T new volume c open_new unnamed) begun.within m
        same in
        record {
          unnamed = unnamed;
          within = begun.within;
          says = any_key (readable new fs) (key_in m own_root) c after
              (sym (alike_inode (readable new fs) m c alike (key_in m own_root)) ∙ (sym read ∙ file)) bytes bytes_are
              (key_in (readable new fs) volume.tree.top);
          bytes = bytes;
          bytes_are = bytes_are;
          few = few;
        }
