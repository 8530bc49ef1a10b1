-- States of the store between the edits of a call.
use Rattle.std.proofs.Common.{◌≡◌, ◌≢◌, ℕ, suc, ◌<◌, List, [], ◌∷◌, ◌++◌, length, None, Some, Result, Ok, Err, refl, sym, ◌∙◌, ap, inl, inr, subst, append_assoc, append-nil, if◌then◌else◌}
use Rattle.std.specs.Prelude.{⊤, All, IsTrue, map, ◌==◌}
use Rattle.std.proofs.lemmas.List.Elements.{All-cons, All-head, All-nil, All-tail}
use Rattle.xn_model.specs.Types.{Types}
use Rattle.xn_model.specs.Lives.{StoreState}
use Rattle.xn_model.specs.Calls.{init_of, propose_of, root_of}
use Rattle.xn_model.specs.Root.{slot, word_at}
use Rattle.xn_model.specs.Rules.{IsConsistent}
use Rattle.xn_model.proofs.ForCallers.{init_keeps, not_root}
use Rattle.ffs_model.proofs.ForCallers.{proposed, proposed_others}
use Rattle.treefs_format.specs.Templates.{IsTree}
use Rattle.treefs_model.specs.Acts.{Act, Made, Ran, edit_in}
use Rattle.treefs_model.specs.Reading.{block_at, files_of}
use Rattle.treefs_model.specs.Trees.{has_pointer}
use Rattle.treefs_model.specs.declared.fault.Fault.{Fault}
use Rattle.treefs_model.proofs.Edited.{gives_ok}
use Rattle.treefs_lookup.specs.Readable.{readable}
use Rattle.treefs_edits.specs.Plans.{Begins}
use Rattle.treefs_edits.specs.Written.{written}
use Rattle.treefs_edits.specs.declared.start.Start.{Start}
use Rattle.treefs_values.specs.Kinds.{kinds}
use Rattle.treefs_values.specs.Values.{KeepsBlocks}
use Rattle.treefs_values.specs.Volumes.{IsVolume, IsWholeBlock}
use Rattle.treefs_values.specs.Ways.{ArePointersApart, IsWay}
use Rattle.treefs_values.proofs.BegunRead.{new_here, new_no_root, new_some, new_unled, new_within, root_same, still_inodes, still_other, still_unled, still_volume, still_ways}
use Rattle.treefs_values.proofs.Owners.{store_apart}
use Rattle.treefs_values.proofs.Pending.{AreNew, IsNew, IsOther, New}
use Rattle.treefs_values.proofs.Readings.{acts_read}
use Rattle.treefs_values.proofs.Standing.{KeepsInodes, inodes_stay, inodes_then}

-- a volume in a state of the store
pub record IsAt (T : Types) (fs node inode top : ℕ) (state : StoreState) : Type 0 where
  pub store : IsConsistent T state
  pub root : root_of state fs ≡ Some top
  pub volume : IsVolume node inode (kinds state fs) (readable state fs) top

-- Edits

-- one that drops nothing
pub record IsEdit (T : Types) (fs : ℕ) (act : Act) (old new : StoreState) : Type 0 where
  pub store : IsConsistent T new
  pub root : root_of new fs ≡ root_of old fs
  pub reads : readable new fs ≡ written act (readable old fs)
  pub types : kinds new fs ≡ kinds old fs

pub edit_is : (T : Types) (fs : ℕ) (act : Act) (old new : StoreState) (number : ℕ) → IsConsistent T old → KeepsBlocks act → Made T fs act old new (Ok number) →
    IsEdit T fs act old new
edit_is T fs act old new number h plain made =
    let r = acts_read T fs (act ∷ []) old new h (All-cons KeepsBlocks act [] plain (All-nil KeepsBlocks)) (inr (number, new, made, (refl, refl))) in
    let done = gives_ok (propose_of T old fs act.block (edit_in act old)) old new number made in
    let p = proposed T old new fs act.block (edit_in act old) number done in
    let other : act.block ≢ 0 = not_root T old h fs act.block p.life p.own.alive p.own.mine in
    record {
      store = r.0;
      root = ap (λ m. if (slot m fs).0 == 0 then None else Some (slot m fs).0)
          (proposed_others T old new h fs act.block (edit_in act old) number done 0 (λ same. other (sym same)));
      reads = r.1;
      types = r.2;
    }

-- edits, and then others
pub ran_parts : (T : Types) (fs : ℕ) (first rest : List Act) (old new : StoreState) → Ran T fs (first ++ rest) old new (Ok tt) →
    (middle : StoreState) × Ran T fs first old middle (Ok tt) × Ran T fs rest middle new (Ok tt)
ran_parts T fs [] rest old new ran = (old, (refl, refl), ran)
ran_parts T fs (act ∷ first) rest old new ran = elim ran [
  | inl none ↦ absurd none
  | inr r ↦ let later = ran_parts T fs first rest r.1 new r.3 in (later.0, inr (r.0, r.1, r.2, later.1), later.2)
]

module _ (T : Types) (fs node inode top : ℕ) (few : fs < 32) (tree : IsTree T node inode) where
  -- pointers of the next state
  pub still_apart : (state : StoreState) → IsAt T fs node inode top state → (new : StoreState) → IsConsistent T new → root_of new fs ≡ Some top →
      ArePointersApart node inode (kinds new fs) (readable new fs) top
  still_apart state at new store root =
      let v = at.volume in store_apart T new store node inode tree v.types.0 v.some_types.0 v.some_types.1 fs few top root

  -- Blocks are begun

  pub record IsFineStart (start : Start) : Type 0 where
    pub whole : IsWholeBlock start.bytes
    pub some_type : start.ty ≢ 0
    pub bare : (o : ℕ) → IsTrue (has_pointer node inode start.ty o) → word_at start.bytes o ≡ 0

  -- as they were to be
  abbrev pub AreOf : List Start → List New → Type 0
  AreOf [] [] = ⊤
  AreOf [] (x ∷ xs) = ⊥
  AreOf (start ∷ starts) [] = ⊥
  AreOf (start ∷ starts) (x ∷ xs) = (x.ty ≡ start.ty) × (x.bytes ≡ start.bytes) × AreOf starts xs

  pub record AreBegun (starts : List Start) (begun : List ℕ) (blocks : List ℕ) (old new : StoreState) : Type 0 where
    pub made : List New
    pub blocks_are : blocks ≡ begun ++ map (λ (x : New). x.block) made
    pub of : AreOf starts made
    pub at : IsAt T fs node inode top new
    pub news : AreNew node inode (kinds new fs) (readable new fs) top made
    pub keeps : (x : New) → IsNew node inode (kinds old fs) (readable old fs) top x → IsNew node inode (kinds new fs) (readable new fs) top x × All (IsOther x) made
    pub files : files_of (readable new fs) top ≡ files_of (readable old fs) top
    pub inodes : KeepsInodes (readable old fs) (readable new fs) top
    pub ways : (l : ℕ) (os : List ℕ) → IsWay os l → block_at (readable new fs) top os ≡ block_at (readable old fs) top os

  pub begun_so : (starts : List Start) (begun : List ℕ) (blocks : List ℕ) (old new : StoreState) → All IsFineStart starts → IsAt T fs node inode top old →
      Begins T fs starts begun old new (Ok blocks) → AreBegun starts begun blocks old new
  begun_so [] begun blocks old new fine at begins =
      subst (λ s. AreBegun [] begun blocks old s) (sym begins.1) (record {
        made = [];
        blocks_are = done_is begins.0 ∙ sym (append-nil begun);
        of = tt;
        at = at;
        news = tt;
        keeps = λ x is. (is, All-nil (IsOther x));
        files = refl;
        inodes = inodes_stay (readable old fs) top;
        ways = λ l os way. refl;
      })
    where
      done_is : ◌≡◌ {A = Result (List ℕ) Fault} (Ok blocks) (Ok begun) → blocks ≡ begun
      done_is e = ap (λ r. blocks_or r) e
        where
          blocks_or : Result (List ℕ) Fault → List ℕ
          blocks_or (Ok x) = x
          blocks_or (Err fault) = begun
  begun_so (start ∷ starts) begun blocks old new fine at begins = elim begins [
    | inl none ↦ absurd none
    | inr r ↦
        let made = r.0 in
        let middle = r.1 in
        let v = at.volume in
        let h = at.store in
        let one = All-head IsFineStart start starts fine in
        let b : ℕ = made.0 in
        let done = gives_ok (init_of T old fs start.ty start.bytes) old middle made r.2 in
        let later : New = record { block = b; ty = start.ty; bytes = start.bytes } in
        let files_so = still_volume T old middle h fs start.ty start.bytes b made.1 done node inode top few tree at.root v one.whole one.bare in
        let here = new_here T old middle h fs start.ty start.bytes b made.1 done node inode top few tree at.root v one.whole one.bare in
        let at' : IsAt T fs node inode top middle = record {
          store = (init_keeps T old h fs start.ty start.bytes (b, made.1) middle done).consistent;
          root = root_same T old middle h fs start.ty start.bytes b made.1 done node inode top few tree at.root v one.whole one.bare ∙ at.root;
          volume = files_so.0;
        } in
        let is_new : IsNew node inode (kinds middle fs) (readable middle fs) top later = record {
          there = new_some T old middle h fs start.ty start.bytes b made.1 done node inode top few tree at.root v one.whole one.bare;
          within = new_within T old middle h fs start.ty start.bytes b made.1 done node inode top few tree at.root v one.whole one.bare;
          no_root = new_no_root T old middle h fs start.ty start.bytes b made.1 done node inode top few tree at.root v one.whole one.bare;
          unled = new_unled T old middle h fs start.ty start.bytes b made.1 done node inode top few tree at.root v one.whole one.bare;
          typed = here.0;
          some_type = one.some_type;
          bytes = here.1;
          bare = one.bare;
        } in
        let rest = begun_so starts (begun ++ b ∷ []) blocks middle new (All-tail IsFineStart start starts fine) at' r.3 in
        let own = rest.keeps later is_new in
        record {
          made = later ∷ rest.made;
          blocks_are = rest.blocks_are ∙ append_assoc begun (b ∷ []) (map (λ (x : New). x.block) rest.made);
          of = (refl, refl, rest.of);
          at = rest.at;
          news = (own.0, own.1, rest.news);
          keeps = λ x is.
              let other = still_other T old middle h fs start.ty start.bytes b made.1 done node inode top few tree at.root v one.whole one.bare x.block
              (λ z. is.some_type (sym is.typed ∙ z)) in
              let k = rest.keeps x (record {
                there = is.there;
                within = is.within;
                no_root = is.no_root;
                unled = still_unled T old middle h fs start.ty start.bytes b made.1 done node inode top few tree at.root v one.whole one.bare x.block is.there is.unled;
                typed = other.1 ∙ is.typed;
                some_type = is.some_type;
                bytes = other.2 ∙ is.bytes;
                bare = is.bare;
              }) in
              (k.0, All-cons (IsOther x) later rest.made (λ same. other.0 (sym same)) k.1);
          files = rest.files ∙ files_so.1;
          inodes = inodes_then (readable old fs) (readable middle fs) (readable new fs) top
              (still_inodes T old middle h fs start.ty start.bytes b made.1 done node inode top few tree at.root v one.whole one.bare) rest.inodes;
          ways = λ l os way. rest.ways l os way
              ∙ still_ways T old middle h fs start.ty start.bytes b made.1 done node inode top few tree at.root v one.whole one.bare l os way;
        }
  ]

  pub of_parts : (first rest : List Start) (xs : List New) → AreOf (first ++ rest) xs →
      (ys : List New) × (zs : List New) × (xs ≡ ys ++ zs) × AreOf first ys × AreOf rest zs
  of_parts [] rest xs of = ([], xs, refl, tt, of)
  of_parts (start ∷ first) rest [] of = absurd of
  of_parts (start ∷ first) rest (x ∷ xs) of =
      let later = of_parts first rest xs of.2 in
      (x ∷ later.0, later.1, ap (λ l. x ∷ l) later.2, (of.0, of.1, later.3), later.4)

  pub of_long : (starts : List Start) (xs : List New) → AreOf starts xs → length xs ≡ length starts
  of_long [] [] of = refl
  of_long [] (x ∷ xs) of = absurd of
  of_long (start ∷ starts) [] of = absurd of
  of_long (start ∷ starts) (x ∷ xs) of = ap suc (of_long starts xs of.2)
