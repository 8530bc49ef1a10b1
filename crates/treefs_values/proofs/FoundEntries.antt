-- What is known of a name that is found in a directory.
use Rattle.std.proofs.Common.{◌≡◌, ◌≢◌, ℕ, ◌+◌, Bool, true, false, ◌&&◌, List, [], ◌∷◌, Option, None, Some, Result, Ok, Err, find, refl, sym, ◌∙◌, ap, inl, inr, subst, if◌then◌else◌}
use Rattle.std.specs.Prelude.{Contains, IsTrue, option_map, ◌==◌}
use Rattle.std.specs.Option.{ok_or, option_or}
use Rattle.std.proofs.lemmas.Bool.{and_parts, cases_eq, eq-eqb, ne_eqb}
use Rattle.std.proofs.lemmas.Option.{same_Some}
use Rattle.xn_model.proofs.ForCallers.{Contains-head, Contains-tail}
use Rattle.treefs_format.specs.Buckets.{has_name, live_record}
use Rattle.treefs_format.specs.Candidates.{candidates, name_hash}
use Rattle.treefs_format.specs.Fields.{fields_of}
use Rattle.treefs_format.specs.Inodes.{kind_of}
use Rattle.treefs_format.specs.Names.{is_name}
use Rattle.treefs_format.specs.Records.{Record, is_live, records_of}
use Rattle.treefs_format.specs.declared.kind.Kind.{Kind}
use Rattle.treefs_format.specs.declared.kind.Kind.TheVariants as kind
use Rattle.treefs_model.specs.Files.{and_then}
use Rattle.treefs_model.specs.Reading.{bucket_of, inode_block, key_in}
use Rattle.treefs_model.specs.declared.fault.Fault.{Fault}
use Rattle.treefs_model.specs.declared.fault.Fault.TheVariants.{BadName, NoEntry}
use Rattle.treefs_lookup.specs.Buckets.{bucket_block, bucket_start}
use Rattle.treefs_lookup.specs.Inodes.{directory_found, found_in, found_kind, if_directory, inode_found}
use Rattle.treefs_lookup.specs.Names.{entry_found, first_some, named_in, slot_in, slot_named, slot_of}
use Rattle.treefs_lookup.specs.declared.inodes.Found.{Found}
use Rattle.treefs_lookup.specs.declared.names.Slot.{Slot}
use Rattle.treefs_values.specs.Ways.{block_numbered}
use Rattle.treefs_values.proofs.Elsewhere.{inode_numbered}
use Rattle.treefs_values.proofs.Entries.{same_bytes}

-- Steps that may fail

then_ok : {A B : Type 0} (first : Result A Fault) (go : A → Result B Fault) (y : B) → and_then first go ≡ Ok y → (x : A) × (first ≡ Ok x) × (go x ≡ Ok y)
then_ok (Ok x) go y e = (x, refl, e)
then_ok (Err fault) go y e = absurd (cc e)

abbrev or_else : {A : Type 0} → A → Result A Fault → A
or_else x (Ok y) = y
or_else x (Err fault) = x

pub same_done : {A : Type 0} (x y : A) → ◌≡◌ {A = Result A Fault} (Ok x) (Ok y) → x ≡ y
same_done x y e = ap (or_else x) e

-- Records

pub record IsRecordOf (bytes name : List ℕ) (r : Record) : Type 0 where
  pub there : Contains (records_of bytes) r
  pub named : r.entry.name ≡ name
  pub live : IsTrue (is_live r.entry)

found_among : (p : Record → Bool) (rs : List Record) (r : Record) → find p rs ≡ Some r → Contains rs r × IsTrue (p r)
found_among p [] r e = absurd (cc e)
found_among p (x ∷ rs) r e = by (p x) refl (found_among p rs r) e
  where
    by : (b : Bool) → p x ≡ b → (find p rs ≡ Some r → Contains rs r × IsTrue (p r)) → (if p x then Some x else find p rs) ≡ Some r → Contains (x ∷ rs) r × IsTrue (p r)
    by true h later e =
        let same : x ≡ r = same_Some x r (sym (ap (λ b. if b then Some x else find p rs) h) ∙ e) in
        (subst (Contains (x ∷ rs)) same (Contains-head x rs), sym (ap p same) ∙ h)
    by false h later e = let found = later (sym (ap (λ b. if b then Some x else find p rs) h) ∙ e) in (Contains-tail x rs r found.0, found.1)

pub live_found : (bytes name : List ℕ) (r : Record) → live_record bytes name ≡ Some r → IsRecordOf bytes name r
live_found bytes name r e =
    let found = found_among (λ r. is_live r.entry && has_name name r) (records_of bytes) r e in
    let parts = and_parts (is_live r.entry) (has_name name r) found.1 in
    record { there = found.0; named = same_bytes r.entry.name name parts.1; live = parts.0 }

-- Slots

pub record IsSlot (content : ℕ → List ℕ) (c : ℕ) (name : List ℕ) (k : ℕ) (r : Record) (slot : Slot) : Type 0 where
  pub of : IsRecordOf (bucket_of content c k) name r
  pub block : slot.block ≡ bucket_block content c k
  pub offset : slot.offset ≡ bucket_start k + r.offset
  pub number : slot.number ≡ r.entry.number

slot_among : (content : ℕ → List ℕ) (c : ℕ) (name buckets : List ℕ) (slot : Slot) → first_some (slot_in content c name) buckets ≡ Some slot →
    (k : ℕ) × (r : Record) × Contains buckets k × IsSlot content c name k r slot
slot_among content c name [] slot e = absurd (cc e)
slot_among content c name (k ∷ buckets) slot e = by (live_record (bucket_of content c k) name) refl (slot_among content c name buckets slot) e
  where
    by : (o : Option Record) → live_record (bucket_of content c k) name ≡ o →
        (first_some (slot_in content c name) buckets ≡ Some slot → (j : ℕ) × (r : Record) × Contains buckets j × IsSlot content c name j r slot) →
        option_or (option_map (slot_of (bucket_block content c k) (bucket_start k)) (live_record (bucket_of content c k) name)) (first_some (slot_in content c name) buckets) ≡ Some slot →
        (j : ℕ) × (r : Record) × Contains (k ∷ buckets) j × IsSlot content c name j r slot
    by None h later e =
        let rest = later (sym (ap (λ o. option_or (option_map (slot_of (bucket_block content c k) (bucket_start k)) o) (first_some (slot_in content c name) buckets)) h) ∙ e) in
        (rest.0, rest.1, Contains-tail k buckets rest.0 rest.2, rest.3)
    by (Some r) h later e =
        let same : slot_of (bucket_block content c k) (bucket_start k) r ≡ slot =
        same_Some (slot_of (bucket_block content c k) (bucket_start k) r) slot
        (sym (ap (λ o. option_or (option_map (slot_of (bucket_block content c k) (bucket_start k)) o) (first_some (slot_in content c name) buckets)) h) ∙ e) in (
          k,
          r,
          Contains-head k buckets,
          record {
            of = live_found (bucket_of content c k) name r h;
            block = ap (λ (s : Slot). s.block) (sym same);
            offset = ap (λ (s : Slot). s.offset) (sym same);
            number = ap (λ (s : Slot). s.number) (sym same);
          },
        )

pub slot_found : (content : ℕ → List ℕ) (key : List ℕ) (c : ℕ) (name : List ℕ) (slot : Slot) → slot_named content key c name ≡ Some slot →
    (k : ℕ) × (r : Record) × Contains (candidates (name_hash key name)) k × IsSlot content c name k r slot
unfolding slot_named
slot_found content key c name slot e = slot_among content c name (candidates (name_hash key name)) slot e

-- Inodes

pub record IsFound (content : ℕ → List ℕ) (top n : ℕ) (found : Found) : Type 0 where
  pub number : n ≢ 0
  pub there : block_numbered content top n ≢ 0
  pub block : found.block ≡ block_numbered content top n
  pub fields : found.fields ≡ fields_of (content (block_numbered content top n))
  pub kind : kind_of (fields_of (content (block_numbered content top n))).mode ≡ Some found.kind

module _ (content : ℕ → List ℕ) (top n : ℕ) (found : Found) where
  abbrev b : ℕ
  b = inode_block content top n

  of_kind : (some : b ≢ 0) (number : n ≢ 0) (is : block_numbered content top n ≡ b) (o : Option Kind) → kind_of (fields_of (content b)).mode ≡ o →
      found_in b (content b) ≡ Ok found → IsFound content top n found
  of_kind some number is None h e = absurd (cc (sym (ap (found_kind b (fields_of (content b))) h) ∙ e))
  of_kind some number is (Some k) h e =
      let first : Found = record { block = b; kind = k; fields = fields_of (content b) } in
      let same : first ≡ found = same_done first found (sym (ap (found_kind b (fields_of (content b))) h) ∙ e) in
      record {
        number = number;
        there = λ z. some (sym is ∙ z);
        block = ap (λ (x : Found). x.block) (sym same) ∙ sym is;
        fields = ap (λ (x : Found). x.fields) (sym same) ∙ ap (λ c. fields_of (content c)) (sym is);
        kind = ap (λ c. kind_of (fields_of (content c)).mode) is ∙ (h ∙ ap (λ (x : Found). Some x.kind) same);
      }

  pub found_inode : inode_found content top n ≡ Ok found → IsFound content top n found
  unfolding inode_found
  found_inode e = elim (cases_eq b 0) [
    | inl z ↦ absurd (cc (sym (ap (λ t. if t then Err NoEntry else found_in b (content b)) (eq-eqb b 0 z)) ∙ e))
    | inr some ↦
        let number : n ≢ 0 = λ z. some (ap (inode_block content top) z) in
        of_kind some number (inode_numbered content top n number) (kind_of (fields_of (content b)).mode) refl
        (sym (ap (λ t. if t then Err NoEntry else found_in b (content b)) (ne_eqb b 0 some)) ∙ e)
  ]

module _ (content : ℕ → List ℕ) (top d : ℕ) where
  linked_is : (x found : Found) (k : Kind) → x.kind ≡ k → if_directory x k ≡ Ok found → (x ≡ found) × (x.kind ≡ kind.Directory)
  linked_is x found kind.Directory is e = by (x.fields.links == 0) refl
    where
      by : (t : Bool) → (x.fields.links == 0) ≡ t → (x ≡ found) × (x.kind ≡ kind.Directory)
      by true h = absurd (cc (sym (ap (λ t. if t then Err NoEntry else Ok x) h) ∙ e))
      by false h = (same_done x found (sym (ap (λ t. if t then Err NoEntry else Ok x) h) ∙ e), is)
  linked_is x found kind.File is e = absurd (cc e)
  linked_is x found kind.SymbolicLink is e = absurd (cc e)

  pub directory_is : (found : Found) → directory_found content top d ≡ Ok found → IsFound content top d found × (found.kind ≡ kind.Directory)
  directory_is found e =
      let x = then_ok (inode_found content top d) (λ (f : Found). if_directory f f.kind) found e in
      let l = linked_is x.0 found x.0.kind refl x.2 in
      (found_inode content top d found (x.1 ∙ ap Ok l.0), ap (λ (f : Found). f.kind) (sym l.0) ∙ l.1)

  -- where the record of a name stands
  pub record IsEntry (name : List ℕ) (slot : Slot) : Type 0 where
    pub number : d ≢ 0
    pub there : block_numbered content top d ≢ 0
    pub directory : kind_of (fields_of (content (block_numbered content top d))).mode ≡ Some kind.Directory
    pub bucket : ℕ
    pub record_of : Record
    pub candidate : Contains (candidates (name_hash (key_in content top) name)) bucket
    pub slot_is : IsSlot content (block_numbered content top d) name bucket record_of slot
    pub named : IsTrue (is_name name)

  pub entry_is : (name : List ℕ) (slot : Slot) → entry_found content top d name ≡ Ok slot → IsEntry name slot
  entry_is name slot e =
      let x = then_ok (directory_found content top d) (λ (directory : Found). named_in content (key_in content top) name directory.block) slot e in
      let found = directory_is x.0 x.1 in
      by x.0 found.0 found.1 (is_name name) refl (slot_named content (key_in content top) x.0.block name) refl x.2
    where
      by : (directory : Found) → IsFound content top d directory → directory.kind ≡ kind.Directory → (t : Bool) → is_name name ≡ t →
          (o : Option Slot) → slot_named content (key_in content top) directory.block name ≡ o → named_in content (key_in content top) name directory.block ≡ Ok slot → IsEntry name slot
      by directory found kind_is false h o g e' =
          absurd (cc (sym (ap (λ t. if t then ok_or (slot_named content (key_in content top) directory.block name) NoEntry else Err BadName) h) ∙ e'))
      by directory found kind_is true h None g e' =
          absurd (cc (sym (ap (λ t. if t then ok_or (slot_named content (key_in content top) directory.block name) NoEntry else Err BadName) h
          ∙ ap (λ o. ok_or o NoEntry) g) ∙ e'))
      by directory found kind_is true h (Some s) g e' =
          let same : s ≡ slot = same_done s slot (sym (ap (λ t. if t then ok_or (slot_named content (key_in content top) directory.block name) NoEntry else Err BadName) h
          ∙ ap (λ o. ok_or o NoEntry) g) ∙ e') in
          let at = slot_found content (key_in content top) (block_numbered content top d) name slot
          (ap (λ c. slot_named content (key_in content top) c name) (sym found.block) ∙ (g ∙ ap Some same)) in
          record {
            number = found.number;
            there = found.there;
            directory = found.kind ∙ ap Some kind_is;
            bucket = at.0;
            record_of = at.1;
            candidate = at.2;
            slot_is = at.3;
            named = h;
          }
