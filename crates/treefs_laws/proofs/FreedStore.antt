-- Inodes without links are freed whose pointers stand in one block: no number leads to them any more, and all other files are as before.
use mathlib.Core.Path.{fun_ext}
use Rattle.std.proofs.Common.{◌≡◌, ◌≢◌, ◌⊎◌, ℕ, ◌+◌, ◌*◌, ◌<◌, ◌≤◌, true, false, List, [], ◌∷◌, length, None, Result, Ok, Err, refl, sym, ◌∙◌, ap, inl}
use Rattle.std.proofs.Common.{inr, subst, arith, if◌then◌else◌}
use Rattle.std.specs.Prelude.{All, Contains, IsTrue, map, ◌==◌}
use Rattle.std.proofs.lemmas.Bool.{cases_eq, eq-eqb, eqb-true, ne_eqb}
use Rattle.std.proofs.lemmas.List.Elements.{All-map}
use Rattle.xn_model.specs.Types.{Types}
use Rattle.xn_model.specs.Calls.{Patch, patched, read_of}
use Rattle.xn_model.specs.Lists.{has_number}
use Rattle.xn_model.specs.Lives.{StoreState}
use Rattle.xn_model.proofs.ForCallers.{any_at, any_from, has_number_from}
use Rattle.store_types.specs.declared.refusal.Refusal.{Refusal}
use Rattle.treefs_lookup.specs.Readable.{answered, readable}
use Rattle.treefs_lookup.specs.Walks.{holder_steps}
use Rattle.treefs_model.specs.Acts.{Ran}
use Rattle.treefs_model.specs.Reading.{block_at, files_of, pointed}
use Rattle.treefs_model.specs.Trees.{has_pointer}
use Rattle.treefs_edits.specs.Written.{written}
use Rattle.treefs_edits.specs.declared.tree.Tree.{Tree}
use Rattle.treefs.specs.Reaping.{IsFreeing, bytes_or_zeros, cleared, freed_beside, freed_patch, is_freed, orphan_block, reap_act}
use Rattle.treefs.specs.declared.reap_plan.Freed.{Freed}
use Rattle.treefs.specs.declared.reap_plan.ReapPlan.{ReapPlan}
use Rattle.treefs_values.specs.Dropped.{AreOverPointers, IsCovered, IsHolderWay, IsLedTo, clear_act, zero_patch}
use Rattle.treefs_values.specs.Kinds.{kinds}
use Rattle.treefs_values.specs.Volumes.{IsVolume}
use Rattle.treefs_values.specs.Ways.{IsWay, block_numbered}
use Rattle.treefs_values.proofs.ForCallers.{IsAt, low_offset}
use Rattle.treefs_laws.proofs.AsideCleared.{cleared_alike, cleared_aside}
use Rattle.treefs_laws.proofs.AsideVolume.{KeepsAside}
use Rattle.treefs_laws.proofs.ClearedBytes.{cleared_patched, freed_place, patch_clears}
use Rattle.treefs_laws.proofs.ClearedPointers.{at_still, no_file_then, still_files}
use Rattle.treefs_laws.proofs.FreedBeside.{IsFreedAt, freed_known, holder, holder_there, holder_way, leads, reach_there}
use Rattle.treefs_laws.proofs.Lists.{all_in, all_with, mapped, mapped_from}
use Rattle.treefs_laws.proofs.OrphansFound.{orphan_is}
use Rattle.treefs_laws.proofs.PointersGone.{IsGone, IsOf}
use Rattle.treefs_laws.proofs.PointersBeside.{one_block}
use Rattle.treefs_laws.proofs.WaysApart.{IsInodeBlock, inodes_apart, no_top, numbered_block, way_pointer}

-- a block that is read
read_whole : (r : Result (List ℕ) Refusal) → length (answered r) ≡ 512 → bytes_or_zeros r ≡ answered r
read_whole (Ok bytes) long = refl
read_whole (Err refusal) long = absurd (omega (arith, long))

-- The edit

module _ (T : Types) (tree : Tree)
    (old new : StoreState) (here : IsAt T tree.fs.number tree.node_type tree.inode_type tree.top old) (numbers : List ℕ) (leaf : ℕ)
    (own : orphan_block (readable old tree.fs.number) tree.top (leaf + 1) ≢ 0) where
  abbrev fs : ℕ
  fs = tree.fs.number

  abbrev top : ℕ
  top = tree.top

  abbrev node : ℕ
  node = tree.node_type

  abbrev inode : ℕ
  inode = tree.inode_type

  abbrev content : ℕ → List ℕ
  content = readable old fs

  abbrev type : ℕ → ℕ
  type = kinds old fs

  v : IsVolume node inode type content top
  v = here.volume

  top_is : IsInodeBlock node inode type content top
  top_is = numbered_block node inode top type content v 0 v.root

  abbrev Freed_so : Freed → Type 0
  Freed_so x = IsFreedAt node inode top type content v numbers leaf x

  abbrev freed : List Freed
  freed = freed_beside content top numbers leaf

  abbrev b : ℕ
  b = holder node inode top type content v numbers leaf own

  there : b ≢ 0
  there = holder_there node inode top type content v numbers leaf own

  way : IsHolderWay (holder_steps leaf)
  way = holder_way node inode top type content v numbers leaf own

  all_freed : (x : Freed) → Contains freed x → Freed_so x
  all_freed x has = all_in Freed_so freed x (freed_known node inode top type content v numbers leaf).all has

  one_leads : (x : Freed) → Freed_so x → (pointed content b x.offset ≡ x.block) × IsWay (x.offset ∷ holder_steps leaf) 0
  one_leads x is =
      let l = leads node inode top type content v numbers leaf own is.place is.few is.low is.high is.orphan in
      (ap (pointed content b) is.offset ∙ (l.0 ∙ sym is.block), subst (λ o. IsWay (o ∷ holder_steps leaf) 0) (sym is.offset) l.1)

  one_pointer : (x : Freed) → Freed_so x → IsTrue (has_pointer node inode (type b) x.offset)
  one_pointer x is = way_pointer node inode top type content v top top_is 0 x.offset (holder_steps leaf) (one_leads x is).1 there

  one_there : (x : Freed) → Freed_so x → x.block ≢ 0
  one_there x is z = (orphan_is content top (is.place + 1) is.orphan).is.there (sym is.block ∙ z)

  abbrev places : List (ℕ × ℕ)
  places = map freed_place freed

  abbrev blocks : List ℕ
  blocks = map (λ (f : Freed). f.block) freed

  over : All (AreOverPointers node inode (type b)) places
  over = All-map (AreOverPointers node inode (type b)) freed_place freed
      (all_with (λ (x : Freed). AreOverPointers node inode (type b) (freed_place x)) freed (λ x has. (
        omega arith,
        λ i lt. let same : x.offset ≡ x.offset + 4 * i = omega arith in
            subst (λ o. IsTrue (has_pointer node inode (type b) o)) same (one_pointer x (all_freed x has)),
      )))

  led : All (IsLedTo content b places) blocks
  led = All-map (IsLedTo content b places) (λ (f : Freed). f.block) freed (all_with (λ (x : Freed). IsLedTo content b places x.block) freed (λ x has. (
    one_there x (all_freed x has),
    x.offset,
    (freed_place x, mapped freed_place freed x has, 0, omega arith, omega arith),
    (one_leads x (all_freed x has)).0,
  )))

  -- what is covered
  covered_from : (o : ℕ) → IsCovered places o → (x : Freed) × Contains freed x × (x.offset ≡ o)
  covered_from o cover =
      let r = mapped_from freed_place freed cover.0 cover.1 in
      let same : r.0.offset ≡ cover.0.0 = ap (λ (p : ℕ × ℕ). p.0) r.2 in
      let one : 1 ≡ cover.0.1 = ap (λ (p : ℕ × ℕ). p.1) r.2 in
      let lt : cover.2 < cover.0.1 = cover.3 in
      let is : o ≡ cover.0.0 + 4 * cover.2 = cover.4 in
      (r.0, r.1, omega arith)

  gone_from : (c : ℕ) → IsGone content b places c → (x : Freed) × Contains freed x × (x.block ≡ c)
  gone_from c (some, o, cover, leads_to) =
      let r = covered_from o cover in (r.0, r.1, sym (one_leads r.0 (all_freed r.0 r.1)).0 ∙ (ap (pointed content b) r.2 ∙ leads_to))

  of : (c : ℕ) → IsGone content b places c → IsOf content top top c
  of c gone =
      let r = gone_from c gone in
      let is = all_freed r.0 r.1 in
      inr (refl, is.place + 1, (λ z. absurd (omega (arith, z))), sym r.2 ∙ is.block)

  module _ (plan : ReapPlan) (is : IsFreeing old tree.fs.number tree.top numbers leaf plan) (ran : Ran T tree.fs.number (reap_act plan ∷ []) old new (Ok tt))
    where
      at_holder : plan.holder ≡ b
      at_holder = is.holder_is ∙ ap (λ r. r.block) (reach_there content top (holder_steps leaf) there)

      whole : length (content b) ≡ 512
      whole = (v.blocks b (λ z. typed way z)).0
        where
          typed : IsHolderWay (holder_steps leaf) → type b ≢ 0
          typed (inl none) z = v.some_types.1 (sym (v.typed.inodes 0 v.root) ∙ (ap type (sym (ap (block_at content top) none)) ∙ z))
          typed (inr w) z = v.some_types.0 (sym (v.typed.nodes 0 w.0 (holder_steps leaf) w.1 there) ∙ z)

      bytes : plan.bytes ≡ cleared (content b) freed
      unfolding readable
      bytes =
          is.bytes_are ∙ (ap (λ h. cleared (bytes_or_zeros (read_of old fs h)) freed) at_holder
          ∙ ap (λ m. cleared m freed) (of_read (read_of old fs b) refl))
        where
          of_read : (r : Result (List ℕ) Refusal) → content b ≡ answered r → bytes_or_zeros r ≡ content b
          of_read r same = read_whole r (ap length (sym same) ∙ whole) ∙ sym same

      abbrev patch : Patch
      patch = freed_patch freed (cleared (content b) freed)

      writes_here : patched (content b) (patch ∷ []) ≡ patched (content b) (map zero_patch places)
      writes_here =
          patch_clears (content b) freed whole ((freed_known node inode top type content v numbers leaf).rising 0 (omega arith)) fits
          ∙ cleared_patched (content b) freed
        where
          fits : All (λ (f : Freed). f.offset + 4 ≤ 512) freed
          fits = all_with (λ (f : Freed). f.offset + 4 ≤ 512) freed (λ x has. (low_offset node inode (type b) x.offset (one_pointer x (all_freed x has))).1)

      writes : written (reap_act plan) content ≡ written (clear_act b places blocks None) content
      writes = (λ j c. if c == at_holder j then patched (content c) (freed_patch (is.freed_are j) (bytes j) ∷ []) else content c)
          ∙ fun_ext (λ c. by c (cases_eq c b))
        where
          by : (c : ℕ) → (c ≡ b) ⊎ (c ≢ b) →
              (if c == b then patched (content c) (patch ∷ []) else content c) ≡ (if c == b then patched (content c) (map zero_patch places) else content c)
          by c (inl same) = ap (λ x. if c == b then x else content c)
              (ap (λ x. patched (content x) (patch ∷ [])) same ∙ (writes_here ∙ ap (λ x. patched (content x) (map zero_patch places)) (sym same)))
          by c (inr ne) = ap (λ t. if t then patched (content c) (patch ∷ []) else content c) (ne_eqb c b ne)
              ∙ sym (ap (λ t. if t then patched (content c) (map zero_patch places) else content c) (ne_eqb c b ne))

      drops : map (λ (f : Freed). f.block) plan.freed.items ≡ blocks
      drops = ap (map (λ (f : Freed). f.block)) is.freed_are

      pub freed_at_still : IsAt T fs node inode top new
      freed_at_still = at_still T tree old new here top top_is (holder_steps leaf) way there places blocks None over led (reap_act plan) refl at_holder
          drops writes ran v.root (inl (0, refl)) of

      pub freed_aside : KeepsAside tree old new
      freed_aside c a = (
        cleared_aside T tree old new here top top_is (holder_steps leaf) way there places blocks None over led (reap_act plan) refl at_holder drops
            writes ran v.root (inl (0, refl)) of c a,
        cleared_alike T tree old new here top top_is (holder_steps leaf) way there places blocks None over led (reap_act plan) refl at_holder drops
            writes ran v.root (inl (0, refl)) of c a a.no_root,
      )

      pub freed_gone : (m : ℕ) → is_freed (freed_beside (readable old tree.fs.number) tree.top numbers leaf) m ≡ true → files_of (readable new fs) top m ≡ None
      freed_gone m e =
          let r = any_at (λ (f : Freed). f.number == m) freed e in
          let x = all_freed r.0 r.1 in
          let same : x.place + 1 ≡ m = sym x.number ∙ eqb-true r.0.number m r.2 in
          let block : r.0.block ≡ block_numbered content top m = x.block ∙ ap (block_numbered content top) same in
          no_file_then T tree old new here top top_is (holder_steps leaf) way there places blocks None over led (reap_act plan) refl at_holder drops
          writes ran v.root (inl (0, refl)) of m
          (λ z. absurd (omega (arith, same, z))) (λ z. one_there r.0 x (block ∙ z))
          (has_number_from blocks (block_numbered content top m) (subst (Contains blocks) block (mapped (λ (f : Freed). f.block) freed r.0 r.1)))

      pub others_there : (m : ℕ) → m ≢ 0 → is_freed (freed_beside (readable old tree.fs.number) tree.top numbers leaf) m ≡ false →
          files_of (readable new fs) top m ≡ files_of content top m
      others_there m some e =
          still_files T tree old new here top top_is (holder_steps leaf) way there places blocks None over led (reap_act plan) refl at_holder drops writes
          ran v.root (inl (0, refl)) of m not_top some
          (λ gone.
          let r = gone_from (block_numbered content top m) gone in
          let x = all_freed r.0 r.1 in
          let same : m ≡ x.place + 1 = inodes_apart node inode top type content v m (x.place + 1) gone.0 (sym r.2 ∙ x.block) in
          absurd (cc (sym e ∙ any_from (λ (f : Freed). f.number == m) freed r.0 r.1 (eq-eqb r.0.number m (x.number ∙ sym same)))))
        where
          not_top : block_numbered content top m ≢ top
          not_top is = elim (cases_eq (block_numbered content top m) 0) [
            | inl z ↦ v.root (sym is ∙ z)
            | inr there' ↦ no_top node inode top type content v m some there' is
          ]

  -- what is freed has no links, and is one of these numbers
  pub freed_orphan : (m : ℕ) → is_freed (freed_beside (readable old tree.fs.number) tree.top numbers leaf) m ≡ true →
      (has_number numbers m ≡ true) × (orphan_block (readable old tree.fs.number) tree.top m ≢ 0)
  freed_orphan m e =
      let r = any_at (λ (f : Freed). f.number == m) freed e in
      let x = all_freed r.0 r.1 in
      let same : x.place + 1 ≡ m = sym x.number ∙ eqb-true r.0.number m r.2 in
      (ap (has_number numbers) (sym same) ∙ x.among, λ z. x.orphan (ap (orphan_block content top) same ∙ z))

  -- and so is the inode that was asked for
  pub own_freed : has_number numbers (leaf + 1) ≡ true → is_freed (freed_beside (readable old tree.fs.number) tree.top numbers leaf) (leaf + 1) ≡ true
  own_freed among =
      let one = one_block leaf in
      let low = one.0 in
      let high = one.1 in
      (freed_known node inode top type content v numbers leaf).has leaf low (omega arith) among own
