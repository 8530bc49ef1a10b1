-- The lives that a mount makes of a sound image.
use Rattle.std.proofs.Common.{◌≡◌, ℕ, zero, suc, ◌<◌, ◌≤◌, ◌≢◌, true, List, [], ◌∷◌, length, Option, Some, None, refl, sym, ◌∙◌, ap, inl, inr, arith, subst}
use Rattle.std.specs.Prelude.{Contains, IsTrue}
use Rattle.std.proofs.lemmas.Bool.{cases_eq, cases_lt, and_parts}
use Rattle.std.proofs.lemmas.Option.{same_Some, none-some}
use Rattle.std.proofs.lemmas.List.{get_or_default, length-map}
use Rattle.std.proofs.lemmas.List.Elements.{Contains-append_right}
use Rattle.xn_model.specs.Lists.{distinct, blocks_of}
use Rattle.xn_model.specs.Types.{Types, fits, named_once, within_size}
use Rattle.xn_model.specs.Root.{HasBuiltIns, pointer, has_type, marked, slot, templates_of, roots_of, owned_by_root}
use Rattle.xn_model.specs.Languages.{Language, types_in}
use Rattle.xn_model.specs.Images.{IsDiskSize, block_of, Reach, root, step, Owns, IsSound}
use Rattle.xn_model.specs.Lives.{on_disk, BlockState, Status, Owned, Life, Lives, life_at, states, newest, Dropped, Fresh, root_on_disk}
use Rattle.xn_model.specs.Calls.{types_of, latest, life_bytes}
use Rattle.xn_model.specs.Mounts.{IsRecoveredLife, IsRecovered}
use Rattle.xn_model.specs.Worlds.{World, mounted, none_given, given_at, mounted_state, types_there}
use Rattle.xn_model.specs.Rules.{IsBy, IsConsistent, PointersStay, WaitsForOlder, IsTemplate, IsInFileSystem, IsRootLife, IsSoundLife, AreSoundLives, IsLinkedLife, IsHeldOnDisk, Holds, HasExactStatuses, IsNamer, NamedIn, ChainsEnd}
use Rattle.xn_model.proofs.Lives.{past}
use Rattle.xn_model.proofs.Catalogue.{on_disk_is}
use Rattle.xn_model.proofs.Languages.{built_ins_in, installed_has, types_same}
use Rattle.xn_model.proofs.Lists.{Contains-none, Contains-cons, last_of}
use Rattle.xn_model.proofs.Chains.{HasChain, alone, below, chain_ends}
use Rattle.xn_model.proofs.Orders.{ordered_empty}
use Rattle.xn_model.proofs.RootBytes.{templates_from, slots_apart, templates_apart, template_type, template_owned, roots_from}

-- a life with one state, on the disk
abbrev at_rest : Option ℕ → ℕ → Status → List ℕ → Life
at_rest fs t st m = record { fs = fs; ty = t; status = st; durable = Some (on_disk m); pending = []; begun = None }

module _ (L : Language) (image : List (List ℕ)) (sound : IsSound (types_in L (block_of image)) (length image) (block_of image)) (lives : Lives) (rec' : IsRecovered (types_in L (block_of image)) image lives) where
  abbrev T : Types
  T = types_in L (block_of image)

  abbrev built_ins : HasBuiltIns T
  built_ins = built_ins_in L (block_of image)

  life_is : (c : ℕ) (l : Life) → IsRecoveredLife T image lives c l → at_rest l.fs l.ty l.status (block_of image c) ≡ l
  life_is c l r = λ i. record { fs = l.fs; ty = l.ty; status = l.status; durable = sym r.durable i; pending = sym r.nothing i; begun = sym r.idle i }

  only_state : (m : List ℕ) (s : BlockState) → Contains (on_disk m ∷ []) s → s ≡ on_disk m
  only_state m s i = elim (Contains-cons (on_disk m) [] s i) [ inl e ↦ sym e | inr none ↦ absurd (Contains-none s none) ]

  reached_installed : (c t : ℕ) → Reach T (length image) (block_of image) c t → IsTrue (T.installed t)
  reached_installed c t root = built_ins.root
  reached_installed c t (step {b} {t = v} r lt inst names) = (sound.types b v c t r names).1

  in_range : (c : ℕ) (l : Life) → life_at lives c ≡ Some l → c < length image
  in_range c l e = elim (cases_lt c (length image)) [
    | inl lt ↦ lt
    | inr past' ↦ absurd (none-some l (sym (past lives c (subst (λ n. n ≤ c) (sym rec'.count) past')) ∙ e))
  ]

  named_reached : (c : ℕ) (l : Life) → life_at lives c ≡ Some l → (x u : ℕ) → Contains (T.owned l.ty (block_of image c)) (x, u) → Reach T (length image) (block_of image) x u
  named_reached c l e x u n = let r = (rec'.only c l e).reached in step r (in_range c l e) (reached_installed c l.ty r) n

  -- the owner by a place
  owns : (c t x u : ℕ) → Reach T (length image) (block_of image) c t → (n : Contains (T.owned t (block_of image c)) (x, u)) → Owns T (length image) (block_of image) c n.0 x
  owns c t x u r n = record { ty = t; reached = r; within = n.1; names = ap (λ (p : ℕ × ℕ). p.0) (get_or_default (T.owned t (block_of image c)) n.0 (0, 0) (x, u) n.1 ∙ n.2) }

  same_owner : (c t x u a v : ℕ) → Reach T (length image) (block_of image) c t → Contains (T.owned t (block_of image c)) (x, u) → Reach T (length image) (block_of image) a v → (w : ℕ) → Contains (T.owned v (block_of image a)) (x, w) → a ≡ c
  same_owner c t x u a v r n q w m =
      let one = sound.owner c t x u r n in
      (one.only a m.0 (owns a v x w q m)).0 ∙ sym (one.only c n.0 (owns c t x u r n)).0

  -- what a recovered block names
  target : (c : ℕ) (l : Life) → life_at lives c ≡ Some l → (x u : ℕ) → Contains (T.owned l.ty (block_of image c)) (x, u) → (m : Life) × (life_at lives x ≡ Some m) × (m.ty ≡ u) × (m.status ≡ Owned c)
  target c l e x u n =
      let life = rec'.all x u (named_reached c l e x u n) in
      let r = rec'.only x life.0 life.1 in
      let low : 1 ≤ x = (sound.range c l.ty x u (rec'.only c l e).reached n).0 in
      let o = r.owner (λ z. omega arith) in
      (life.0, life.1, life.2, o.2 ∙ ap Owned (same_owner c l.ty x u o.0 o.1 (rec'.only c l e).reached n o.3 life.0.ty o.4))

  -- it is of the same file system, but where block 0 names it
  target_system : (c : ℕ) (l : Life) → life_at lives c ≡ Some l → c ≢ 0 → (x u : ℕ) → Contains (T.owned l.ty (block_of image c)) (x, u) → IsInFileSystem lives l.fs x
  target_system c l e ne x u n =
      let life = rec'.all x u (named_reached c l e x u n) in
      let low : 1 ≤ x = (sound.range c l.ty x u (rec'.only c l e).reached n).0 in
      let o = (rec'.only x life.0 life.1).owner (λ z. omega arith) in
      let owner : o.0 ≡ c = same_owner c l.ty x u o.0 o.1 (rec'.only c l e).reached n o.3 life.0.ty o.4 in
      record {
        life = life.0;
        alive = life.1;
        holds = elim o.5 [
          | inl other ↦ other.1.2 ∙ ap (λ (y : Life). y.fs) (same_Some other.1.0 l (sym other.1.1 ∙ (ap (life_at lives) owner ∙ e)))
          | inr rest ↦ elim rest [ inl none ↦ absurd (ne (sym owner ∙ none.0)) | inr some ↦ absurd (ne (sym owner ∙ some.0)) ]
        ];
      }

  -- block 0 on the disk
  root_bytes : root_on_disk lives ≡ block_of image 0
  root_bytes = let m = rec'.all 0 0 root in on_disk_is lives m.0 (on_disk (block_of image 0)) m.1 (rec'.only 0 m.0 m.1).durable

  held_rest : (c : ℕ) (l : Life) → life_at lives c ≡ Some l → IsSoundLife T lives c (at_rest l.fs l.ty l.status (block_of image c))
  held_rest c l e = record {
    fit = λ s i. subst (λ (x : BlockState). IsTrue (fits T l.ty x.bytes)) (sym (only_state (block_of image c) s i)) (sound.fit c l.ty (rec'.only c l e).reached);
    named = λ s x u i n. let t = target c l e x u (subst (λ (y : BlockState). Contains (T.owned l.ty y.bytes) (x, u)) (only_state (block_of image c) s i) n) in
        record { life = t.0; alive = t.1; holds = (t.2, let p : IsBy c (Owned c) = refl in subst (IsBy c) (sym t.3) p) };
    same_system = λ s x u ne i n. target_system c l e ne x u (subst (λ (y : BlockState). Contains (T.owned l.ty y.bytes) (x, u)) (only_state (block_of image c) s i) n);
    ready = λ s x u i n. let t = target c l e x u (subst (λ (y : BlockState). Contains (T.owned l.ty y.bytes) (x, u)) (only_state (block_of image c) s i) n) in
        record { life = t.0; alive = t.1; holds = (on_disk (block_of image x), (rec'.only x t.0 t.1).durable) };
    typed = λ s x u ne i n. let t = target c l e x u (subst (λ (y : BlockState). Contains (T.owned l.ty y.bytes) (x, u)) (only_state (block_of image c) s i) n) in
        ap (λ m. has_type m u) root_bytes ∙ installed_has L (block_of image) u (sound.types c l.ty x u (rec'.only c l e).reached (subst (λ (y : BlockState). Contains (T.owned l.ty y.bytes) (x, u)) (only_state (block_of image c) s i) n)).1;
    rising = tt;
  }

  kept_rest : (c : ℕ) (l : Life) → life_at lives c ≡ Some l → IsLinkedLife T lives c (at_rest l.fs l.ty l.status (block_of image c))
  kept_rest c l e = record {
    last = on_disk (block_of image c);
    is_last = refl;
    owned = λ x u n. let t = target c l e x u n in record { life = t.0; alive = t.1; holds = t.3 };
    installed = reached_installed c l.ty (rec'.only c l e).reached;
    root_alone = λ z. elim (cases_eq c 0) [
      | inl same ↦ same
      | inr ne ↦ let o = (rec'.only c l e).owner ne in let low : 1 ≤ l.ty = (sound.types o.0 o.1 c l.ty o.3 o.4).0 in absurd (omega arith)
    ];
    start = tt;
    grows = tt;
    dropped = λ s x i n. absurd (Contains-none s i);
    gone = tt;
    flight = tt;
    resting = λ s x i n. absurd (Contains-none s i);
  }

  -- block 0
  root_life : (l : Life) × (life_at lives 0 ≡ Some l) × (l.ty ≡ 0)
  root_life = rec'.all 0 0 root

  abbrev root_rec : IsRecoveredLife T image lives 0 root_life.0
  root_rec = rec'.only 0 root_life.0 root_life.1

  root_only : (s : BlockState) → Contains (states root_life.0) s → s ≡ on_disk (block_of image 0)
  root_only s i = only_state (block_of image 0) s (subst (λ x. Contains (states x) s) (sym (life_is 0 root_life.0 root_rec)) i)

  root_once : distinct (blocks_of (owned_by_root (block_of image 0))) ≡ true
  root_once = ap (λ ps. distinct (blocks_of ps)) (sym (built_ins.root_owns (block_of image 0))) ∙ (and_parts (named_once T 0 (block_of image 0)) (within_size T 0 (block_of image 0)) (sound.fit 0 0 root)).0

  template_rec : (c u : ℕ) → Contains (templates_of (block_of image 0)) (c, u) → IsTemplate T lives c
  template_rec c u n =
      let named : Contains (T.owned root_life.0.ty (block_of image 0)) (c, u) = subst (λ t. Contains (T.owned t (block_of image 0)) (c, u)) (sym root_life.2) (subst (λ ps. Contains ps (c, u)) (sym (built_ins.root_owns (block_of image 0))) (template_owned (block_of image 0) c u n)) in
      let t = target 0 root_life.0 root_life.1 c u named in
      let r = rec'.only c t.0 t.1 in
      let low : 1 ≤ c = (sound.range 0 root_life.0.ty c u root_rec.reached named).0 in
      let o = r.owner (λ z. omega arith) in
      let by_root : o.0 ≡ 0 = same_owner 0 root_life.0.ty c u o.0 o.1 root_rec.reached named o.3 t.0.ty o.4 in
      let nobody : t.0.fs ≡ None = elim o.5 [
        | inl other ↦ absurd (other.0 by_root)
        | inr rest ↦ elim rest [
          | inl none ↦ none.2
          | inr some ↦ absurd (templates_apart (block_of image 0) c u (slot (block_of image 0) some.1.0).1 root_once n
              (roots_from (block_of image 0) some.1.0 c (slot (block_of image 0) some.1.0).1 some.1.1 (λ i. (some.1.2 i, (slot (block_of image 0) some.1.0).1)) (λ z. omega arith)))
        ]
      ] in
      record {
        life = t.0;
        alive = t.1;
        holds = (nobody, t.2 ∙ template_type (block_of image 0) c u n, on_disk (block_of image c), ap states (sym (life_is c t.0 r)), (sound.templates c u n).1);
      }

  -- what root slot i names is of file system i
  slot_system : (i c : ℕ) → i < 32 → (slot (block_of image 0) i).0 ≡ c → c ≢ 0 → IsInFileSystem lives (Some i) c
  unfolding owned_by_root
  slot_system i c lt e ne =
      let m = block_of image 0 in
      let u = (slot m i).1 in
      let listed : Contains (roots_of m) (c, u) = roots_from m i c u lt (λ j. (e j, u)) ne in
      let both : Contains (owned_by_root m) (c, u) = Contains-append_right (templates_of m) (roots_of m) (c, u) listed in
      let named : Contains (T.owned root_life.0.ty m) (c, u) = subst (λ t. Contains (T.owned t m) (c, u)) (sym root_life.2) (subst (λ ps. Contains ps (c, u)) (sym (built_ins.root_owns m)) both) in
      let t = target 0 root_life.0 root_life.1 c u named in
      let o = (rec'.only c t.0 t.1).owner ne in
      let by_root : o.0 ≡ 0 = same_owner 0 root_life.0.ty c u o.0 o.1 root_rec.reached named o.3 t.0.ty o.4 in
      record {
        life = t.0;
        alive = t.1;
        holds = elim o.5 [
          | inl other ↦ absurd (other.0 by_root)
          | inr rest ↦ elim rest [
            | inl none ↦ absurd (templates_apart m c none.1.0 u root_once none.1.1 listed)
            | inr some ↦ some.1.3 ∙ ap Some (slots_apart m some.1.0 i c root_once some.1.1 lt some.1.2 e ne)
          ]
        ];
      }

  root_held : IsRootLife T lives
  root_held =
      let m = block_of image 0 in
      record {
        life = root_life.0;
        alive = root_life.1;
        ty = root_life.2;
        nobody = (root_rec.root refl).1;
        unowned = (root_rec.root refl).0;
        state = on_disk m;
        durable = root_rec.durable;
        mark = λ s i. subst (λ (x : BlockState). IsTrue (marked (length lives) x.bytes)) (sym (root_only s i)) (subst (λ n. IsTrue (marked n m)) (sym rec'.count) sound.head);
        pointers = subst (λ x. PointersStay (states x)) (life_is 0 root_life.0 root_rec) tt;
        long = λ s i. ap (λ (x : BlockState). length x.bytes) (root_only s i) ∙ sound.long;
        templates = λ s c u i n. template_rec c u (subst (λ (x : BlockState). Contains (templates_of x.bytes) (c, u)) (root_only s i) n);
        types = λ s c u i n. ap (λ (x : BlockState). has_type x.bytes u) (root_only s i)
            ∙ installed_has L (block_of image) u (sound.types 0 0 c u root (subst (λ ps. Contains ps (c, u)) (sym (built_ins.root_owns m)) (subst (λ (x : BlockState). Contains (owned_by_root x.bytes) (c, u)) (root_only s i) n))).1;
        all_types = λ s t e i. ap (λ (x : BlockState). has_type x.bytes t) (root_only s (last_of root_life.0.durable root_life.0.pending s e)) ∙ installed_has L (block_of image) t i;
        slots = λ s i c k lt e ne. slot_system i c lt (ap (λ (x : BlockState). (slot x.bytes i).0) (sym (root_only s k)) ∙ e) ne;
      }

  held_recovered : AreSoundLives T lives
  held_recovered = record { root = root_held; each = λ c l e. subst (IsSoundLife T lives c) (life_is c l (rec'.only c l e)) (held_rest c l e) }

  kept_recovered : (c : ℕ) (l : Life) → life_at lives c ≡ Some l → IsLinkedLife T lives c l
  kept_recovered c l e = subst (IsLinkedLife T lives c) (life_is c l (rec'.only c l e)) (kept_rest c l e)

  placed_recovered : (c : ℕ) (l : Life) (s : BlockState) → life_at lives c ≡ Some l → l.durable ≡ Some s → IsHeldOnDisk (block_of image) c l s
  placed_recovered c l s e d = inl (ap (λ (x : BlockState). x.bytes) (same_Some (on_disk (block_of image c)) s (sym (rec'.only c l e).durable ∙ d)))

  numbers_recovered : (c : ℕ) (l : Life) (s : BlockState) → life_at lives c ≡ Some l → Contains (states l) s → s.entry < 1
  numbers_recovered c l s e i =
      let is = only_state (block_of image c) s (subst (λ x. Contains (states x) s) (sym (life_is c l (rec'.only c l e))) i) in
      let zero' : s.entry ≡ 0 = ap (λ (x : BlockState). x.entry) is in omega arith

  -- no block names itself
  never_itself : (c t v u : ℕ) → Reach T (length image) (block_of image) c t → Reach T (length image) (block_of image) c v → Contains (T.owned v (block_of image c)) (c, u) → ⊥
  never_itself c t v u root q n = let low : 1 ≤ 0 = (sound.range 0 v 0 u q n).0 in omega arith
  never_itself c t v u (step {b} {t = x} r lt inst names) q n =
      let same : b ≡ c = same_owner c v c u b x q n r t names in
      let q' : Reach T (length image) (block_of image) b v = subst (λ y. Reach T (length image) (block_of image) y v) (sym same) q in
      let n' : Contains (T.owned v (block_of image b)) (b, u) = subst (λ y. Contains (T.owned v (block_of image y)) (y, u)) (sym same) n in
      never_itself b x v u r q' n'

  exact_recovered : HasExactStatuses T lives
  exact_recovered = record {
    owned = λ c l a e s. elim (cases_eq c 0) [
      | inl z ↦ let p : Fresh ≡ Owned a = sym ((rec'.only c l e).root z).0 ∙ s in absurd cc
      | inr ne ↦
          let o = (rec'.only c l e).owner ne in
          let same : o.0 ≡ a = by_owned o.0 a (sym o.2 ∙ s) in
          let m = rec'.all o.0 o.1 o.3 in
          let q = rec'.only o.0 m.0 m.1 in
          let named : NamedIn T m.0.ty (newest m.0) (c, l.ty) =
          subst (λ (x : Life). NamedIn T x.ty (newest x) (c, l.ty)) (life_is o.0 m.0 q) (subst (λ t. Contains (T.owned t (block_of image o.0)) (c, l.ty)) (sym m.2) o.4) in
          subst (λ b. IsNamer T lives b c l.ty) same (record { life = m.0; alive = m.1; holds = named })
    ];
    emptied = λ c l a p e s n. elim (cases_eq c 0) [
      | inl z ↦ let q : Fresh ≡ Dropped a = sym ((rec'.only c l e).root z).0 ∙ s in absurd cc
      | inr ne ↦ let o = (rec'.only c l e).owner ne in let q : Owned o.0 ≡ Dropped a = sym o.2 ∙ s in absurd cc
    ];
  }
    where
      by_owned : (x y : ℕ) → Owned x ≡ Owned y → x ≡ y
      by_owned x y e = cc

  -- each reached block is owned by the block by which it is reached
  chain_reached : (c u : ℕ) → Reach T (length image) (block_of image) c u → HasChain lives c
  chain_reached c u root = alone lives 0 (record { life = root_life.0; alive = root_life.1; holds = (root_rec.root refl).0 })
  chain_reached c u (step {b} {t} r lt inst names) =
      let owner = rec'.all b t r in
      let x = target b owner.0 owner.1 c u (subst (λ y. Contains (T.owned y (block_of image b)) (c, u)) (sym owner.2) names) in
      below lives b c (record { life = x.0; alive = x.1; holds = x.3 }) (chain_reached b t r)

  chains_recovered : ChainsEnd lives
  chains_recovered c l e in_use = chain_ends lives c (chain_reached c l.ty (rec'.only c l e).reached)

  nothing_pending : (b : ℕ) (l : Life) (s : BlockState) → life_at lives b ≡ Some l → Contains l.pending s → ⊥
  nothing_pending b l s e i = Contains-none s (subst (λ xs. Contains xs s) (rec'.only b l e).nothing i)

  queued_recovered : WaitsForOlder T lives
  queued_recovered = record {
    adds = λ b l s c u e i n. absurd (nothing_pending b l s e i);
    types = λ b l s c u e i n. absurd (nothing_pending b l s e i);
    drops = λ b l s c m t e i d f j. absurd (nothing_pending b l s e i);
    after = λ b l s n e i f. absurd (nothing_pending b l s e i);
    apart = λ c l e by. elim (cases_eq c 0) [
      | inl z ↦ subst (IsBy c) ((rec'.only c l e).root z).0 by
      | inr ne ↦
          let o = (rec'.only c l e).owner ne in
          let same : o.0 ≡ c = subst (IsBy c) o.2 by in
          let r = (rec'.only c l e).reached in
          never_itself c l.ty o.1 l.ty r (subst (λ y. Reach T (length image) (block_of image) y o.1) same o.3) (subst (λ y. Contains (T.owned o.1 (block_of image y)) (c, l.ty)) same o.4)
    ];
  }

  -- the types of the lives are those of the image
  alive_latest : (c : ℕ) (l : Life) → life_at lives c ≡ Some l → latest lives c ≡ block_of image c
  alive_latest c l e = ap life_bytes (e ∙ ap Some (sym (life_is c l (rec'.only c l e))))

  pub types_recovered : types_of L lives ≡ T
  types_recovered = types_same L (block_of image) (latest lives) (λ i lt. ap (λ m. pointer m i) (alive_latest 0 root_life.0 root_life.1))
      (λ i lt ne. let t = template_rec (pointer (block_of image 0) i) 1 (templates_from (block_of image 0) i (pointer (block_of image 0) i) lt refl ne) in alive_latest (pointer (block_of image 0) i) t.life t.alive)

pub never_given : (image : List (List ℕ)) (c : ℕ) → given_at (none_given image) c ≡ None
never_given [] c = refl
never_given (m ∷ image) zero = refl
never_given (m ∷ image) (suc c) = never_given image c

-- The world after a mount, up or down
pub mount_holds : (w : World) → IsSound (types_there w) (length w.image) (block_of w.image) → (lives : Lives) → IsRecovered (types_there w) w.image lives → Holds (mounted w lives)
mount_holds w sound lives r =
    let L = w.language in
    record {
      state = subst (λ T. IsConsistent T (mounted_state lives)) (sym (types_recovered L w.image sound lives r)) (record {
        built_ins = built_ins_in L (block_of w.image);
        size = subst IsDiskSize (sym r.count) sound.size;
        lives_sound = held_recovered L w.image sound lives r;
        linked = kept_recovered L w.image sound lives r;
        waits = queued_recovered L w.image sound lives r;
        order = ordered_empty lives (nothing_pending L w.image sound lives r);
        statuses = exact_recovered L w.image sound lives r;
        chains = chains_recovered L w.image sound lives r;
        numbers = numbers_recovered L w.image sound lives r;
      });
      count = sym r.count;
      settled_count = sym r.count;
      given_count = length-map w.image (λ bytes. None) ∙ sym r.count;
      placed = placed_recovered L w.image sound lives r;
      newest = (refl, λ c. inl refl);
      unsynced = λ c bytes e. absurd (none-some bytes (sym (never_given w.image c) ∙ e));
    }
