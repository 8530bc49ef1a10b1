-- What is left of a name that is moved, after its inode was named again and the old name taken.
use Rattle.std.proofs.Common.{◌≡◌, ◌≢◌, ◌∙◌, ℕ, ◌*◌, ◌<◌, ◌≤◌, ◌++◌, ◌∷◌, List, None, Ok, Some, ap, arith, eq-eqb, inl, inr, length, length-append, refl, subst, suc, sym, ◌==◌, if◌then◌else◌}
use Rattle.ffs_lib.proofs.Common.{AreBlocksOnce, FfsFault, Slot, StoreState, Types, blocks_value, cases_eq, direct_in, directory_in, inode_in, inode_links}
use Rattle.ffs_lib.proofs.Common.{latest, listing, named_in, none-some, room, without_entry}
use Rattle.ffs_lookup.proofs.ForCallers.{direct_has, first_value, same_ok}
use Rattle.ffs_lib.specs.Results.{AsBefore, IsAs, IsExtended, MovedInodes, SameInode}
use Rattle.ffs_lib.specs.Steps.{Clearing, NamedAgain, StopsNaming, StopsTaking, StopsUnnaming, Unnamed}
use Rattle.ffs_lib.proofs.Entering.{directory_from, directory_same}
use Rattle.ffs_lib.proofs.Fields.{same_blocks}
use Rattle.ffs_lib.proofs.Laws.{less_of}
use Rattle.ffs_lib.proofs.Moving.{as_on, directory_to, named_block, same_as}
use Rattle.ffs_lib.proofs.Renaming.{CanMove}
use Rattle.ffs_lib.proofs.Same.{same_on}
use Rattle.ffs_lib.proofs.Staged.{same_here}
use Rattle.ffs_lib.proofs.StillNamed.{still_named}
use Rattle.ffs_lib.proofs.ValueLists.{Listed, both_true, place_listed, there_in, there_without}
use Rattle.ffs_lib.proofs.ValueMade.{pointer_kept, pointer_new}
use Rattle.ffs_lib.proofs.ValueSame.{blocks_same}
use Rattle.ffs_lib.proofs.ValueSteps.{as_direct}

longer : (front back : List Listed) (e : Listed) → front ++ e ∷ back ≡ front ++ back → ⊥
longer front back e same =
    let one : length (e ∷ back) ≡ suc (length back) = refl in
    let both : length (front ++ e ∷ back) ≡ length (front ++ back) = ap length same in
    omega (arith, one, length-append front (e ∷ back), length-append front back, both)

-- what the inode that is named has, besides its links
abbrev SameListed : (ℕ → List ℕ) → (ℕ → List ℕ) → ℕ → ℕ → ℕ → Type 0
SameListed old new fs n x =
    (inode after : List ℕ) → Ok inode ≡ directory_in old fs x → Ok after ≡ directory_in new fs x → listing new after ≡ listing old inode → AsBefore old new fs x × (x ≢ n → SameInode old new fs x)

module _ (u w : ℕ → List ℕ) (fs d : ℕ) (name : List ℕ) (other : ℕ) (new_name : List ℕ) (slot : Slot) (x : CanMove u fs d name other new_name slot) (z : NamedAgain u w fs other new_name slot.inode) where
  pub still_there : Ok slot ≡ named_in w fs d name
  still_there = still_named u z.middle w fs d name other new_name x.from x.to x.is_from x.is_to slot slot.inode x.good x.first x.free z.linked.before (z.entered.more, z.entered.others)

  pub still_one : (entry : Slot) → Ok entry ≡ named_in w fs d name → entry ≡ slot
  still_one entry again = same_ok entry slot (again ∙ sym still_there)

  -- the directory that is entered has an entry more
  more_listed : (inode after : List ℕ) → Ok inode ≡ directory_in u fs other → Ok after ≡ directory_in w fs other → listing w after ≡ listing u inode → ⊥
  more_listed inode after i now same =
      let dir = directory_from u fs other inode i in
      let to1 = z.linked.before other inode dir.0 in
      let more = z.entered.more to1.after (directory_to z.middle fs other to1.after to1.found (to1.mode ∙ dir.1)) in
      let one : more.after ≡ after = same_ok more.after after (more.directory ∙ sym now) in
      longer more.front more.back (more.entry, new_name) (sym more.is ∙ (ap (listing w) one ∙ (same ∙ (sym to1.entries ∙ more.was))))

  named_listed : (x' : ℕ) → SameListed u w fs slot.inode x'
  named_listed e inode after i now same = elim (cases_eq e other) [
    | inl is ↦ absurd (more_listed inode after (i ∙ ap (directory_in u fs) is) (now ∙ ap (directory_in w fs) is) same)
    | inr ne ↦ (
      as_on u z.middle w fs e (z.linked.before e) (same_as z.middle w fs e (z.entered.others e ne)),
      λ away. same_on u z.middle w fs e (z.linked.others e away) (z.entered.others e ne),
    )
  ]

  -- and the first one lost one
  less_listed : (v last : ℕ → List ℕ) → Clearing w v fs slot → AsBefore v last fs d → (inode after : List ℕ) → Ok inode ≡ directory_in u fs d → Ok after ≡ directory_in last fs d → listing last after ≡ listing u inode → ⊥
  less_listed v last c before inode after i now same =
      let at = named_block w fs d name slot still_there in
      let y = before at.0 (at.1 ∙ sym (c.inodes d)) in
      let one : y.after ≡ after = same_ok y.after after (y.found ∙ sym (directory_from last fs d after now).0) in
      let mine : x.from ≡ inode = same_ok x.from inode (x.is_from ∙ sym i) in
      let entry = first_value u x.from name slot x.first in
      let k = entry.is in
      let lists : listing u x.from ≡ without_entry slot (listing w at.0) = ap (listing u) mine ∙ (sym same ∙ (ap (listing last) (sym one) ∙ (y.entries ∙ c.entries at.0))) in
      let stood : there_in slot.block slot.place (listing u x.from) ≡ Some (name, slot.inode) =
      sym (place_listed slot.block slot.place u (omega (arith, k.few, k.place)) x.from (direct_has x.from entry.at.0 slot.block k.low k.block k.there)) ∙ entry.stands in
      none-some (name, slot.inode)
      (sym (there_without slot slot.block slot.place (listing w at.0)
      ∙ ap (λ t. if t then None else there_in slot.block slot.place (listing w at.0)) (both_true (slot.block == slot.block) (slot.place == slot.place) (eq-eqb slot.block slot.block refl) (eq-eqb slot.place slot.place refl)))
      ∙ (ap (there_in slot.block slot.place) (sym lists) ∙ stood))

  -- after that only the links of the inode changed
  last_listed : (v last : ℕ → List ℕ) → Clearing w v fs slot → ((e : ℕ) → AsBefore v last fs e) → ((e : ℕ) → e ≢ slot.inode → SameInode v last fs e) → (x' : ℕ) → SameListed u last fs slot.inode x'
  last_listed v last c before same e inode after i now listed = elim (cases_eq e d) [
    | inl is ↦ absurd (less_listed v last c (before d) inode after (i ∙ ap (directory_in u fs) is) (now ∙ ap (directory_in last fs) is) listed)
    | inr ne ↦
        let at = named_block w fs d name slot still_there in
        let own : SameInode w v fs e = c.others d at.0 at.1 at.2 e ne in
        elim (cases_eq e other) [
          | inl is ↦
              let dir = directory_from u fs other inode (i ∙ ap (directory_in u fs) is) in
              let to1 = z.linked.before other inode dir.0 in
              let more = z.entered.more to1.after (directory_to z.middle fs other to1.after to1.found (to1.mode ∙ dir.1)) in
              let found : Ok more.after ≡ inode_in w fs e = (directory_from w fs other more.after more.directory).0 ∙ ap (inode_in w fs) (sym is) in
              let y = as_on w v last fs e (same_as w v fs e own) (before e) more.after found in
              let one : y.after ≡ after = same_ok y.after after (y.found ∙ sym (directory_from last fs e after now).0) in
              absurd (more_listed inode more.after (i ∙ ap (directory_in u fs) is) more.directory (sym y.entries ∙ (ap (listing last) one ∙ listed)))
          | inr ne' ↦ (
            as_on u w last fs e (as_on u z.middle w fs e (z.linked.before e) (same_as z.middle w fs e (z.entered.others e ne'))) (as_on w v last fs e (same_as w v fs e own) (before e)),
            λ away. same_on u w last fs e (same_on u z.middle w fs e (z.linked.others e away) (z.entered.others e ne')) (same_on w v last fs e own (same e away)),
          )
        ]
  ]

  -- two inodes of which one is as the other but for its links
  extended_as : (inode before : List ℕ) → (y : (v : ℕ → List ℕ) × (last : ℕ → List ℕ) × IsAs v last fs other before) → IsExtended inode before → IsExtended inode y.2.after
  extended_as inode before y e = (
    λ i lt some. as_direct y.0 y.1 fs other before y.2 i lt ∙ e.0 i lt some,
    elim e.1 [
      | inl p ↦ inl (y.2.direct ∙ p.0, y.2.size ∙ p.1)
      | inr p ↦ inr (λ same. p.0 (sym y.2.direct ∙ same), y.2.size ∙ (p.1 ∙ ap (λ (bs : List ℕ). 512 * length bs) (sym (same_blocks before y.2.after y.2.direct))))
    ],
  )

  -- two links at least
  many : 1 ≤ inode_links x.own → (inode : List ℕ) → Ok inode ≡ inode_in w fs slot.inode → 1 < inode_links inode
  many linked inode i =
      elim (cases_eq slot.inode other) [
        | inr ne ↦ let one = z.linked.links x.own inode x.is_own (i ∙ (z.entered.others slot.inode ne).0) in omega (arith, one, linked)
        | inl e ↦
            let at = directory_from u fs other x.to x.is_to in
            let to1 = z.linked.before other x.to at.0 in
            let more = z.entered.more to1.after (directory_to z.middle fs other to1.after to1.found (to1.mode ∙ at.1)) in
            let same : inode_links inode ≡ inode_links more.after = ap inode_links (same_ok inode more.after (i ∙ (ap (inode_in w fs) e ∙ sym (directory_from w fs other more.after more.directory).0))) in
            omega (arith, z.linked.links x.own to1.after x.is_own (to1.found ∙ ap (inode_in z.middle fs) (sym e)), linked, same, more.links)
      ]

  module _ (once : AreBlocksOnce w fs) (at : ℕ × ℕ) (room_at : Some at ≡ room (blocks_value u x.to)) where
    -- the directory that is entered
    extended : (inode after : List ℕ) → Ok inode ≡ directory_in u fs other → Ok after ≡ directory_in w fs other → IsExtended inode after
    extended inode after i now =
        let v = z.middle in
        let dir = directory_from u fs other inode i in
        let to1 = z.linked.before other inode dir.0 in
        let more = z.entered.more to1.after (directory_to v fs other to1.after to1.found (to1.mode ∙ dir.1)) in
        let one : more.after ≡ after = same_ok more.after after (more.directory ∙ sym now) in
        let direct : (i : ℕ) → i < 12 → direct_in to1.after i ≡ direct_in inode i = λ i lt. as_direct u v fs other inode to1 i lt in
        let mine : x.to ≡ inode = same_ok x.to inode (x.is_to ∙ sym i) in
        let place : Some at ≡ room (blocks_value v to1.after) =
        room_at ∙ (ap (λ (m : List ℕ). room (blocks_value u m)) mine ∙ ap room (sym (blocks_same u v inode to1.after direct to1.entries to1.size to1.each))) in
        let singly = once other more.after more.directory in
        subst (IsExtended inode) one (
          λ i lt some. pointer_kept v w fs other slot.inode new_name to1.after more singly at place i lt (λ none. some (sym (direct i lt) ∙ none)) ∙ direct i lt,
          elim more.placed [
            | inl p ↦ inl (p.1 ∙ to1.direct, p.2 ∙ to1.size)
            | inr p ↦ inr (λ same. pointer_new v w fs other slot.inode new_name to1.after more singly at place p.0 p.1 p.3 (same ∙ sym to1.direct), p.4)
          ],
        )

    -- it is named again
    named_inodes : MovedInodes u w fs d other slot.inode
    named_inodes = record {
      others = λ e ne ne'. as_on u z.middle w fs e (z.linked.before e) (same_as z.middle w fs e (z.entered.others e ne'));
      same = λ e ne ne' away. same_on u z.middle w fs e (z.linked.others e away) (z.entered.others e ne');
      kept = λ ne away. (z.entered.others d ne).0 ∙ (z.linked.others d away).0;
      sized = extended;
      listed = named_listed;
    }

    -- and the old entry is gone, or an edit after that was refused
    pub refused_inodes : 1 ≤ inode_links x.own → (T : Types) (middle new : StoreState) → latest middle.lives ≡ w → (fault : FfsFault) → StopsUnnaming T fs middle new slot fault → MovedInodes u (latest new.lives) fs d other slot.inode
    refused_inodes linked T middle new is fault stop = elim stop [
      | inl p ↦ subst (λ (c : ℕ → List ℕ). MovedInodes u c fs d other slot.inode) (sym (ap (λ (y : StoreState). latest y.lives) p.0 ∙ is)) named_inodes
      | inr q ↦ taking q.0 (subst (λ (c : ℕ → List ℕ). Clearing c (latest q.0.lives) fs slot) is q.1) q.2
    ]
      where
        taking : (m : StoreState) → Clearing w (latest m.lives) fs slot → StopsTaking T fs m new slot.inode fault → MovedInodes u (latest new.lives) fs d other slot.inode
        taking m c s =
            let n = slot.inode in
            let v = latest m.lives in
            let last = latest new.lives in
            let at = named_block w fs d name slot still_there in
            let own : (e : ℕ) → e ≢ d → SameInode w v fs e = c.others d at.0 at.1 at.2 in
            let named = named_inodes in
            let inodes : (e : ℕ) → inode_in last fs e ≡ inode_in w fs e = λ e. elim (cases_eq e n) [
              | inl same ↦ ap (inode_in last fs) same ∙ (sym s.is ∙ (s.was ∙ (c.inodes n ∙ ap (inode_in w fs) (sym same))))
              | inr ne ↦ (s.others e ne).0 ∙ c.inodes e
            ] in
            let before : (e : ℕ) → AsBefore v last fs e = λ e. elim (cases_eq e n) [
              | inr ne ↦ same_as v last fs e (s.others e ne)
              | inl is ↦ λ inode i. elim s.stage [
                | inl same ↦ same_as v last fs e (subst (λ (y : StoreState). SameInode v (latest y.lives) fs e) (sym same) (same_here v fs e)) inode i
                | inr k ↦
                    let one : inode_links inode ≡ inode_links s.inode = ap inode_links (same_ok inode s.inode (i ∙ (ap (inode_in v fs) is ∙ sym s.was))) in
                    absurd (omega (arith, one, many linked inode (i ∙ (ap (inode_in v fs) is ∙ c.inodes n)), k.last))
              ]
            ] in
            let mine : n ≢ d → AsBefore w last fs n = λ away inode i. elim s.stage [
              | inl same ↦ same_as w last fs n (subst (λ (y : StoreState). SameInode w (latest y.lives) fs n) (sym same) (own n away)) inode i
              | inr e ↦
                  let one : inode_links inode ≡ inode_links s.inode = ap inode_links (same_ok inode s.inode (i ∙ (sym (c.inodes n) ∙ sym s.was))) in
                  absurd (omega (arith, one, many linked inode i, e.last))
            ] in
            record {
              others = λ e ne ne'. elim (cases_eq e n) [
                | inl same ↦ subst (λ (k : ℕ). AsBefore u last fs k) (sym same) (as_on u w last fs n (named.others n (λ z. ne (same ∙ z)) (λ z. ne' (same ∙ z))) (mine (λ z. ne (same ∙ z))))
                | inr away ↦ as_on u w last fs e (named.others e ne ne') (same_as w last fs e (same_on w v last fs e (own e ne) (s.others e away)))
              ];
              same = λ e ne ne' away. same_on u w last fs e (named.same e ne ne' away) (same_on w v last fs e (own e ne) (s.others e away));
              kept = λ ne away. inodes d ∙ named.kept ne away;
              sized = λ inode after i now. extended inode after i (now ∙ directory_same w last fs other (inodes other));
              listed = last_listed v last c before s.others;
            }

    pub moved_inodes : 1 ≤ inode_links x.own → (last : ℕ → List ℕ) → Unnamed w last fs slot → MovedInodes u last fs d other slot.inode
    moved_inodes linked last g =
        let less = less_of g.middle last fs slot.inode g.took (λ inode i. many linked inode (i ∙ g.cleared.inodes slot.inode)) in
        let at = named_block w fs d name slot still_there in
        let own : (e : ℕ) → e ≢ d → SameInode w g.middle fs e = g.cleared.others d at.0 at.1 at.2 in
        let named = named_inodes in
        record {
          others = λ e ne ne'. as_on u w last fs e (named.others e ne ne') (as_on w g.middle last fs e (same_as w g.middle fs e (own e ne)) (less.0 e));
          same = λ e ne ne' away. same_on u w last fs e (named.same e ne ne' away) (same_on w g.middle last fs e (own e ne) (g.took.others e away));
          kept = λ ne away. (g.took.others d away).0 ∙ (g.cleared.inodes d ∙ named.kept ne away);
          sized = λ inode after i now.
              let dir = directory_from u fs other inode i in
              let to1 = z.linked.before other inode dir.0 in
              let more = z.entered.more to1.after (directory_to z.middle fs other to1.after to1.found (to1.mode ∙ dir.1)) in
              let y = less.0 other more.after ((directory_from w fs other more.after more.directory).0 ∙ sym (g.cleared.inodes other)) in
              subst (IsExtended inode) (same_ok y.after after (y.found ∙ sym (directory_from last fs other after now).0)) (extended_as inode more.after (g.middle, last, y) (extended inode more.after i more.directory));
          listed = last_listed g.middle last g.cleared less.0 g.took.others;
        }

-- no name is entered yet
pub naming_inodes : (T : Types) (fs d other n : ℕ) (name : List ℕ) (old new : StoreState) (fault : FfsFault) → StopsNaming T fs old new other name n fault → MovedInodes (latest old.lives) (latest new.lives) fs d other n
naming_inodes T fs d other n name old new fault stop = let u = latest old.lives in elim stop [
  | inl home ↦ subst (λ (y : StoreState). MovedInodes u (latest y.lives) fs d other n) (sym home.0) nothing
  | inr q ↦
      let m = latest q.0.lives in
      let w = latest new.lives in
      let l = q.1 in
      let same = q.2.same in
      record {
        others = λ e ne ne'. as_on u m w fs e (l.before e) (same_as m w fs e (same e));
        same = λ e ne ne' away. same_on u m w fs e (l.others e away) (same e);
        kept = λ ne away. (same d).0 ∙ (l.others d away).0;
        sized = λ inode after i now.
            let to1 = l.before other inode (directory_from u fs other inode i).0 in
            let one : to1.after ≡ after = same_ok to1.after after (to1.found ∙ (sym (same other).0 ∙ sym (directory_from w fs other after now).0)) in
            subst (IsExtended inode) one (λ k lt some. as_direct u m fs other inode to1 k lt, inl (to1.direct, to1.size));
        listed = λ x inode after i now e. (as_on u m w fs x (l.before x) (same_as m w fs x (same x)), λ away. same_on u m w fs x (l.others x away) (same x));
      }
]
  where
    nothing : MovedInodes (latest old.lives) (latest old.lives) fs d other n
    nothing = record {
      others = λ e ne ne'. same_as (latest old.lives) (latest old.lives) fs e (same_here (latest old.lives) fs e);
      same = λ e ne ne' away. same_here (latest old.lives) fs e;
      kept = λ ne away. refl;
      sized = λ inode after i now. subst (IsExtended inode) (same_ok inode after (i ∙ sym now)) (λ k lt some. refl, inl (refl, refl));
      listed = λ x inode after i now e. (same_as (latest old.lives) (latest old.lives) fs x (same_here (latest old.lives) fs x), λ away. same_here (latest old.lives) fs x);
    }
