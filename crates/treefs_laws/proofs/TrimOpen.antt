-- An open volume once parts of a trim are done.
use Rattle.std.proofs.Common.{◌≡◌, ◌≢◌, ℕ, List, Option, None, Some, Result, Ok, Err, refl, sym, ◌∙◌, ap, subst}
use Rattle.std.specs.Prelude.{All, MatchResult}
use Rattle.xn_model.specs.Types.{Types}
use Rattle.xn_model.specs.Lives.{StoreState}
use Rattle.treefs_format.specs.declared.kind.Kind.{Kind}
use Rattle.treefs_format.specs.declared.kind.Kind.TheVariants as kind
use Rattle.treefs_model.specs.Files.{and_then}
use Rattle.treefs_model.specs.declared.fault.Fault.{Fault}
use Rattle.treefs_lookup.specs.Inodes.{file_found, if_bytes, inode_found}
use Rattle.treefs_lookup.specs.Readable.{readable}
use Rattle.treefs_lookup.specs.declared.inodes.Found.{Found}
use Rattle.treefs_edits.specs.Memories.{Memory}
use Rattle.treefs_edits.specs.declared.tree.Tree.{Tree}
use Rattle.treefs_byte_plans.specs.Kept.{kept_of, kept_up_to}
use Rattle.treefs_byte_plans.specs.declared.kept.Kept.{Kept}
use Rattle.treefs.specs.Trimming.{Answers, Blanks, Drops, HasRoom, Roots, Then, TrimCallDoes, TrimDoes, TrimsFirst, Waits, kept_in, most_drops}
use Rattle.treefs.specs.declared.volume.Volume.{Volume}
use Rattle.treefs_values.proofs.ForCallers.{IsFound, found_inode}
use Rattle.treefs_laws.specs.Kept.{files_in}
use Rattle.treefs_laws.specs.Open.{IsOpen}
use Rattle.treefs_laws.specs.Seen.{seen_files}
use Rattle.treefs_laws.specs.Trimmed.{AreKeptOf, IsKeptOf}
use Rattle.treefs_laws.proofs.CutWays.{byte_kept}
use Rattle.treefs_laws.proofs.Planned.{same_done, then_ok}
use Rattle.treefs_laws.proofs.TrimBlanks.{blanks_stay}
use Rattle.treefs_laws.proofs.TrimParts.{IsFileAt, Stays, both_stay, drops_stay, stays_same}
use Rattle.treefs_laws.proofs.TrimRoots.{roots_stay}
use Rattle.treefs_laws.proofs.TrimWaits.{waits_stay}

-- A whole trim, in any state of the store

module _ (T : Types) (tree : Tree) (n : ℕ) (number : n ≢ 0) (c size : ℕ) (k : Kind) (no_directory : k ≢ kind.Directory) (memory : Memory) where
  abbrev own : ℕ
  own = tree.fs.number

  abbrev all_kept : Kept
  all_kept = kept_up_to c size

  abbrev At : StoreState → Type 0
  At s = IsFileAt T tree n number c size k no_directory s

  abbrev Stay : StoreState → StoreState → Type 0
  Stay old new = Stays T tree n number c size k no_directory old new

  room : (old new : StoreState) (result : Result (Unit {0}) Fault) → At old → HasRoom own memory all_kept old new result → Stay old new
  room old new result at does = stays_same T tree n number c size k no_directory old new at does.1

  two : (First Next : StoreState → StoreState → Result (Unit {0}) Fault → Type 0) →
      ((old new : StoreState) (result : Result (Unit {0}) Fault) → At old → First old new result → Stay old new) →
      ((old new : StoreState) (result : Result (Unit {0}) Fault) → At old → Next old new result → Stay old new) →
      (old new : StoreState) (result : Result (Unit {0}) Fault) → At old → Then First Next old new result → Stay old new
  two = both_stay T tree n number c size k no_directory

  pub trim_stays : (old new : StoreState) (result : Result (Unit {0}) Fault) → At old → TrimDoes T own memory (kept_up_to c size) old new result → Stay old new
  trim_stays =
      two (HasRoom own memory all_kept) (Then (Blanks T own memory all_kept) (Then (Drops T own memory all_kept most_drops) (Then (Roots T own all_kept) (Waits T own all_kept)))) room
      (two (Blanks T own memory all_kept) (Then (Drops T own memory all_kept most_drops) (Then (Roots T own all_kept) (Waits T own all_kept)))
      (blanks_stay T tree n number c size k no_directory memory)
      (two (Drops T own memory all_kept most_drops) (Then (Roots T own all_kept) (Waits T own all_kept))
      (drops_stay T tree n number c size k no_directory all_kept.keep (byte_kept size) memory all_kept refl refl most_drops)
      (two (Roots T own all_kept) (Waits T own all_kept)
      (roots_stay T tree n number c size k no_directory all_kept.keep (byte_kept size) all_kept refl refl)
      (waits_stay T tree n number c size k no_directory all_kept refl))))

module _ (T : Types) (state : StoreState) (volume : Volume) (is_open : IsOpen T state volume) where
  abbrev fs : ℕ
  fs = volume.tree.fs.number

  abbrev content : ℕ → List ℕ
  content = readable state fs

  abbrev top : ℕ
  top = volume.tree.top

  pub record IsFile (kept : Kept) : Type 0 where
    pub number : ℕ
    pub some : number ≢ 0
    pub found : Found
    pub no_directory : found.kind ≢ kind.Directory
    pub at : IsFileAt T volume.tree number some found.block found.fields.size found.kind no_directory state
    pub kept_is : kept ≡ kept_of found

  bytes_kind : (x found : Found) (k : Kind) → if_bytes x k ≡ Ok found → (x ≡ found) × (k ≢ kind.Directory)
  bytes_kind x found kind.Directory e = absurd (cc e)
  bytes_kind x found kind.File e = (same_done x found e, λ z. absurd (cc z))
  bytes_kind x found kind.SymbolicLink e = (same_done x found e, λ z. absurd (cc z))

  pub record IsFileFound (n : ℕ) (found : Found) : Type 0 where
    pub here : inode_found content top n ≡ Ok found
    pub is : IsFound content top n found
    pub no_directory : found.kind ≢ kind.Directory

  pub found_file : (n : ℕ) (found : Found) → file_found content top n ≡ Ok found → IsFileFound n found
  found_file n found is =
      let x = then_ok (inode_found content top n) (λ (x : Found). if_bytes x x.kind) found is in
      let k = bytes_kind x.0 found x.0.kind x.2 in
      let here : inode_found content top n ≡ Ok found = x.1 ∙ ap Ok k.0 in
      record { here = here; is = found_inode content top n found here; no_directory = λ z. k.1 (ap (λ (y : Found). y.kind) k.0 ∙ z) }

  pub file_of : (kept : Kept) → IsKeptOf state volume kept → IsFile kept
  file_of kept (n, found, is, kept_is) =
      let x = found_file n found is in
      let f : IsFound content top n found = x.is in
      record {
        number = n;
        some = f.number;
        found = found;
        no_directory = x.no_directory;
        at = record {
          here = record { store = is_open.kept.store; root = is_open.root; volume = is_open.kept.bytes };
          block = sym f.block;
          there = λ z. f.there (sym f.block ∙ z);
          size_is = ap (λ g. g.size) (sym f.fields);
          kind_is = f.kind;
        };
        kept_is = kept_is;
      }

  abbrev pub Said : StoreState → Type 0
  Said new = IsOpen T new volume × (files_in new volume ≡ files_in state volume)

  pub same_said : (new : StoreState) → new ≡ state → Said new
  same_said new same = subst Said (sym same) (is_open, refl)

  pub said_of : (kept : Kept) (f : IsFile kept) (new : StoreState) → Stays T volume.tree f.number f.some f.found.block f.found.fields.size f.found.kind f.no_directory state new → Said new
  said_of kept f new stays =
      let files : files_in new volume ≡ files_in state volume = ap (seen_files volume.memory.touched) stays.1 in (
        record {
          kept = record { store = stays.0.here.store; bytes = stays.0.here.volume; session = is_open.kept.session };
          few = is_open.few;
          tree = is_open.tree;
          short = is_open.short;
          root = stays.0.here.root;
          touched = subst (λ g. All (λ touch. g touch.number ≢ None) volume.memory.touched) (sym files) is_open.touched;
        },
        files,
      )

  pub blanks_said : (kept : Kept) → IsKeptOf state volume kept → (new : StoreState) (result : Result (Unit {0}) Fault) → Blanks T fs volume.memory kept state new result → Said new
  blanks_said kept of new result does =
      let f = file_of kept of in
      said_of kept f new (blanks_stay T volume.tree f.number f.some f.found.block f.found.fields.size f.found.kind f.no_directory volume.memory state new result f.at
      (subst (λ x. Blanks T fs volume.memory x state new result) f.kept_is does))

  pub drops_said : (kept : Kept) → IsKeptOf state volume kept → (left : ℕ) (new : StoreState) (result : Result (Unit {0}) Fault) → Drops T fs volume.memory kept left state new result → Said new
  drops_said kept of left new result does =
      let f = file_of kept of in
      said_of kept f new (drops_stay T volume.tree f.number f.some f.found.block f.found.fields.size f.found.kind f.no_directory
      (kept_of f.found).keep (byte_kept f.found.fields.size) volume.memory kept (ap (λ x. x.inode) f.kept_is) (ap (λ x. x.keep) f.kept_is) left state new result f.at does)

  pub waits_said : (kept : Kept) → IsKeptOf state volume kept → (new : StoreState) (result : Result (Unit {0}) Fault) → Waits T fs kept state new result → Said new
  waits_said kept of new result does =
      let f = file_of kept of in
      said_of kept f new (waits_stay T volume.tree f.number f.some f.found.block f.found.fields.size f.found.kind f.no_directory kept (ap (λ x. x.inode) f.kept_is)
      state new result f.at does)

  pub roots_said : (kept : Kept) → IsKeptOf state volume kept → (new : StoreState) (result : Result (Unit {0}) Fault) → Roots T fs kept state new result → Said new
  roots_said kept of new result does =
      let f = file_of kept of in
      said_of kept f new (roots_stay T volume.tree f.number f.some f.found.block f.found.fields.size f.found.kind f.no_directory
      (kept_of f.found).keep (byte_kept f.found.fields.size) kept (ap (λ x. x.inode) f.kept_is) (ap (λ x. x.keep) f.kept_is) state new result f.at does)

  pub trim_said : (kept : Option Kept) → AreKeptOf state volume kept → (new : StoreState) (result : Result (Unit {0}) Fault) → TrimsFirst T fs volume.memory kept state new result → Said new
  trim_said None of new result does = same_said new does.1
  trim_said (Some kept) of new result does =
      let f = file_of kept of in
      said_of kept f new (trim_stays T volume.tree f.number f.some f.found.block f.found.fields.size f.found.kind f.no_directory volume.memory state new result f.at
      (subst (λ x. TrimDoes T fs volume.memory x state new result) f.kept_is does))

  -- The call

  pub call_said : (number : ℕ) (new : StoreState) (result : Result (Unit {0}) Fault) → TrimCallDoes T state new volume number result → Said new
  call_said number new result does = by (inode_found content top number) refl does
    where
      of_kind : (found : Found) → inode_found content top number ≡ Ok found → (k : Kind) → found.kind ≡ k → TrimsFirst T fs volume.memory (kept_in found k) state new result → Said new
      of_kind found is kind.Directory kind_is does = same_said new does.1
      of_kind found is kind.File kind_is does = trim_said (Some (kept_of found)) (number, found, ap (λ r. and_then r (λ (x : Found). if_bytes x x.kind)) is ∙ ap (if_bytes found) kind_is, refl) new result does
      of_kind found is kind.SymbolicLink kind_is does = trim_said (Some (kept_of found)) (number, found, ap (λ r. and_then r (λ (x : Found). if_bytes x x.kind)) is ∙ ap (if_bytes found) kind_is, refl) new result does

      by : (r : Result Found Fault) → inode_found content top number ≡ r →
          MatchResult r (λ found. TrimsFirst T fs volume.memory (kept_in found found.kind) state new result) (λ fault. Answers (Err fault) state new result) → Said new
      by (Ok found) is does = of_kind found is found.kind refl does
      by (Err fault) is does = same_said new does.1
