-- A directory with a live record has a name.
use Rattle.std.proofs.Common.{◌≡◌, ℕ, ◌+◌, ◌≤◌, Bool, true, false, not, List, [], ◌∷◌, Option, None, Some, Ok, refl, sym, ◌∙◌, ap, subst}
use Rattle.std.specs.Prelude.{Contains, ◌==◌, ◌||◌}
use Rattle.std.specs.List.{list_any}
use Rattle.std.specs.Option.{ok_or}
use Rattle.std.proofs.lemmas.Bool.{and_parts}
use Rattle.xn_model.proofs.ForCallers.{Contains-head, Contains-tail}
use Rattle.xn_model.specs.Types.{Types}
use Rattle.xn_model.specs.Lives.{StoreState}
use Rattle.treefs_format.specs.Candidates.{candidates, name_hash}
use Rattle.treefs_format.specs.Paths.{leaf_count}
use Rattle.treefs_format.specs.Records.{Entry, Record, entry_length, is_live, placed}
use Rattle.treefs_format.specs.declared.kind.Kind.{Kind}
use Rattle.treefs_format.specs.declared.kind.Kind.TheVariants as kind
use Rattle.treefs_model.specs.Files.{Directory, Inode, and_then}
use Rattle.treefs_model.specs.Reading.{bucket_of, content_at, key_in, number_of}
use Rattle.treefs_model.specs.declared.fault.Fault.TheVariants.{NoEntry}
use Rattle.treefs_lookup.specs.Buckets.{bucket_block}
use Rattle.treefs_lookup.specs.Inodes.{inode_found}
use Rattle.treefs_lookup.specs.Readable.{readable}
use Rattle.treefs_lookup.specs.Sought.{IsNextBucket, has_live}
use Rattle.treefs_lookup.specs.declared.bucket.Bucket.{Bucket}
use Rattle.treefs_lookup.specs.declared.inodes.Found.{Found}
use Rattle.treefs_lookup.specs.declared.sought.Sought.TheVariants.{Live}
use Rattle.treefs.specs.declared.volume.Volume.{Volume}
use Rattle.treefs_values.specs.Names.{bucket_entries}
use Rattle.treefs_values.specs.Volumes.{IsDirectory}
use Rattle.treefs_values.proofs.ForCallers.{among_numbers, candidates_few, found_inode, has_of, live_leads}
use Rattle.treefs_laws.specs.Kept.{HasSomeName, IsKept, files_in}
use Rattle.treefs_laws.proofs.Answering.{found_so, value_at}
use Rattle.treefs_laws.proofs.Planned.{same_done}

some_live : (at : ℕ) (es : List Entry) → list_any (λ (r : Record). is_live r.entry) (placed at es) ≡ true → (e : Entry) × Contains es e × (is_live e ≡ true)
some_live at [] some = absurd (cc some)
some_live at (e ∷ es) some = by (is_live e) refl some (some_live (at + entry_length e) es)
  where
    by : (b : Bool) → is_live e ≡ b → (is_live e || list_any (λ (r : Record). is_live r.entry) (placed (at + entry_length e) es)) ≡ true →
        (list_any (λ (r : Record). is_live r.entry) (placed (at + entry_length e) es) ≡ true → (x : Entry) × Contains es x × (is_live x ≡ true)) →
        (x : Entry) × Contains (e ∷ es) x × (is_live x ≡ true)
    by true is any rest = (e, Contains-head e es, is)
    by false is any rest =
        let r = rest (sym (ap (λ b. b || list_any (λ (r : Record). is_live r.entry) (placed (at + entry_length e) es)) is) ∙ any) in
        (r.0, Contains-tail e es r.0 r.1, r.2)

live_name : (content : ℕ → List ℕ) (key : List ℕ) (c : ℕ) → IsDirectory content key c → (k : ℕ) → k ≤ leaf_count → has_live (bucket_of content c k) ≡ true →
    (name : List ℕ) × (m : ℕ) × (number_of content key c name ≡ Some m)
live_name content key c d k few live =
    let e = some_live 0 (bucket_entries content c k) live in
    let there = d.placed k e.0.name few (has_of (bucket_entries content c k) e.0 e.1) in (
      e.0.name,
      e.0.number,
      among_numbers content c e.0.name (candidates (name_hash key e.0.name))
          ∙ live_leads content c d.names k few e.0 e.1 e.2 (candidates (name_hash key e.0.name)) (λ j has. candidates_few (name_hash key e.0.name) j has) there,
    )

pub is_one : (content : ℕ → List ℕ) (key : List ℕ) (block parent : ℕ) (k : Kind) → k ≡ kind.Directory →
    content_at content key block parent k ≡ Directory parent (number_of content key block)
is_one content key block parent kind.Directory is = refl
is_one content key block parent kind.File is = absurd (cc is)
is_one content key block parent kind.SymbolicLink is = absurd (cc is)

pub some_file : (o : Option Inode) (inode : Inode) → ok_or o NoEntry ≡ Ok inode → o ≡ Some inode
some_file None inode e = absurd (cc e)
some_file (Some x) inode e = ap Some (same_done x inode e)

pub filled : (T : Types) (state : StoreState) (volume : Volume) → IsKept T state volume → (n : ℕ) (x : Found) →
    inode_found (readable state volume.tree.fs.number) volume.tree.top n ≡ Ok x → x.kind ≡ kind.Directory → (bucket : Bucket) →
    IsNextBucket state volume.tree.fs.number x.block Live 0 bucket → HasSomeName (files_in state volume) n
filled T state volume kept n x is one bucket next =
    let content = readable state volume.tree.fs.number in
    let key = key_in content volume.tree.top in
    let f = found_inode content volume.tree.top n x is in
    let d : IsDirectory content key x.block = subst (IsDirectory content key) (sym f.block) (kept.bytes.directories n f.number f.there (f.kind ∙ ap Some one)) in
    let live = (and_parts (not (bucket_block content x.block bucket.number == 0)) (has_live (bucket_of content x.block bucket.number)) next.hit).1 in
    let name = live_name content key x.block d bucket.number next.few live in (
      name.0,
      name.1,
      (
        value_at state volume n x,
        x.fields.parent,
        number_of content key x.block,
        some_file (files_in state volume n) (value_at state volume n x) (found_so state volume n ∙ ap (λ r. and_then r (λ x. Ok (value_at state volume n x))) is),
        is_one content key x.block x.fields.parent x.kind one,
        name.2,
      ),
    )
