-- What is written into a file by its bytes as a value.
use Rattle.std.proofs.Common.{◌≡◌, ◌≢◌, [], ℕ, ◌+◌, ◌-◌, ◌<◌, ◌≤◌, Bool, List, ◌++◌, length, map, take, drop, replicate, get_or, Ok, Err, refl, sym, ◌∙◌, ap, inl, inr, arith, subst, length-append, ◌==◌, ◌&&◌, nat_lt, max, min, if◌then◌else◌, le-leb, le-ltb, lt-ltb, ne_eqb, get_or-drop, get_or-take, length-drop, length-take, length-take-le}
use Rattle.ffs_lib.proofs.Common.{StoreState, TooLarge, and_then, byte_of, bytes_value, cases_lt, file_end, file_in, files_of, get_or-append_right}
use Rattle.ffs_lib.proofs.Common.{get_or-map-range_with_len, get_or-replicate, get_or_append_left, get_or_default, inode_links, latest}
use Rattle.ffs_lib.proofs.Common.{length-map-range_with_len, length-replicate, lt-leb, mapped, most_bytes, range_with_len, same_lists, word_at, write_in}
use Rattle.ffs_lookup.specs.Files.{Absent, Answer, Directory, File, Files, Free, InodeValue, Unusable, file_of, with_value, written, written_bytes, written_in}
use Rattle.ffs_lookup.proofs.ForCallers.{file_found, file_parts, same_ok}
use Rattle.ffs_lib.specs.Outcomes.{IsRaised}
use Rattle.ffs_lib.specs.Results.{OnlyChanges, byte_written}
use Rattle.ffs_lib.specs.Values.{Leads}
use Rattle.ffs_lib.specs.Writes.{Puts, padded}
use Rattle.ffs_lib.specs.Written.{first_written, written_to}
use Rattle.ffs_lib.proofs.Owners.{not_first, passed}
use Rattle.ffs_lib.proofs.Same.{same_on}
use Rattle.ffs_lib.proofs.ValueSteps.{value_at}
use Rattle.ffs_lib.proofs.Writing.{end_raised, test_above, test_below, test_in}

-- Bytes

module _ (f : ℕ → ℕ) (e m : ℕ) (offset : ℕ) (bytes : List ℕ) (size : m ≡ max e (offset + length bytes)) where
  abbrev old_bytes : List ℕ
  old_bytes = map f (range_with_len 0 e)

  abbrev pads : List ℕ
  pads = replicate (offset - e) 0

  long : length old_bytes ≡ e
  long = length-map-range_with_len f 0 e

  long_pads : length pads ≡ offset - e
  long_pads = length-replicate (offset - e) 0

  abbrev all_bytes : List ℕ
  all_bytes = written_bytes old_bytes offset bytes

  same_bytes : all_bytes ≡ take offset old_bytes ++ pads ++ bytes ++ drop (offset + length bytes) old_bytes
  same_bytes = ap (λ n. take offset old_bytes ++ replicate (offset - n) 0 ++ bytes ++ drop (offset + length bytes) old_bytes) long

  long_first : length (take offset old_bytes) ≡ min offset e
  long_first = length-take offset old_bytes ∙ ap (min offset) long

  long_two : length (take offset old_bytes ++ pads) ≡ offset
  long_two = let a = long_first in let b = long_pads in let c = length-append (take offset old_bytes) pads in omega (arith, a, b, c)

  long_three : length (take offset old_bytes ++ pads ++ bytes) ≡ offset + length bytes
  long_three = let a = long_two in let c = length-append (take offset old_bytes ++ pads) bytes in omega (arith, a, c)

  long_all : length (take offset old_bytes ++ pads ++ bytes ++ drop (offset + length bytes) old_bytes) ≡ m
  long_all =
      let c = length-append (take offset old_bytes ++ pads ++ bytes) (drop (offset + length bytes) old_bytes) in
      omega (arith, long_three, length-drop (offset + length bytes) old_bytes, c, long, size)

  -- what is written at a place, and what was there elsewhere
  inside : (k : ℕ) → min e offset ≤ k → k < offset + length bytes → byte_written f (min e offset) (pads ++ bytes) k ≡ get_or (pads ++ bytes) (k - min e offset) 0
  inside k low high =
      let c = length-append pads bytes in
      ap (λ t. if t && nat_lt k (min e offset + length (pads ++ bytes)) then get_or (pads ++ bytes) (k - min e offset) 0 else f k) (le-leb (min e offset) k low)
      ∙ ap (λ t. if t then get_or (pads ++ bytes) (k - min e offset) 0 else f k) (lt-ltb k (min e offset + length (pads ++ bytes)) (omega (arith, low, high, long_pads, c)))

  before : (k : ℕ) → k < min e offset → byte_written f (min e offset) (pads ++ bytes) k ≡ f k
  before k low = ap (λ t. if t && nat_lt k (min e offset + length (pads ++ bytes)) then get_or (pads ++ bytes) (k - min e offset) 0 else f k) (lt-leb (min e offset) k low)

  behind : (k : ℕ) → offset + length bytes ≤ k → byte_written f (min e offset) (pads ++ bytes) k ≡ f k
  behind k high =
      let c = length-append pads bytes in
      ap (λ t. if t && nat_lt k (min e offset + length (pads ++ bytes)) then get_or (pads ++ bytes) (k - min e offset) 0 else f k) (le-leb (min e offset) k (omega (arith, high)))
      ∙ ap (λ t. if t then get_or (pads ++ bytes) (k - min e offset) 0 else f k) (le-ltb k (min e offset + length (pads ++ bytes)) (omega (arith, high, long_pads, c)))

  abbrev parts : List ℕ
  parts = take offset old_bytes ++ pads ++ bytes ++ drop (offset + length bytes) old_bytes

  part : (k d : ℕ) → k < m → byte_written f (min e offset) (pads ++ bytes) k ≡ get_or parts k d
  part k d low = elim (cases_lt k (min e offset)) [
    | inl first ↦
        before k first
        ∙ sym (get_or_append_left (take offset old_bytes ++ pads ++ bytes) (drop (offset + length bytes) old_bytes) d k (omega (arith, first, long_three))
        ∙ (get_or_append_left (take offset old_bytes ++ pads) bytes d k (omega (arith, first, long_two))
        ∙ (get_or_append_left (take offset old_bytes) pads d k (omega (arith, first, long_first))
        ∙ (get_or-take offset old_bytes k d (omega (arith, first)) ∙ get_or-map-range_with_len f 0 e k k d (omega (arith, first)) (omega arith)))))
    | inr from ↦ elim (cases_lt k (offset + length bytes)) [
      | inr past ↦
          behind k past
          ∙ sym (get_or-append_right (take offset old_bytes ++ pads ++ bytes) (drop (offset + length bytes) old_bytes) (offset + length bytes) k d long_three past
          ∙ (get_or-drop (offset + length bytes) old_bytes (k - (offset + length bytes)) d ∙ get_or-map-range_with_len f 0 e (offset + length bytes + (k - (offset + length bytes))) k d (omega (arith, past, low, size)) (omega (arith, past))))
      | inl to ↦
          inside k from to ∙ elim (cases_lt k offset) [
            | inl gap ↦
                get_or_append_left pads bytes 0 (k - min e offset) (omega (arith, gap, from, long_pads))
                ∙ (get_or-replicate (offset - e) (k - min e offset) 0 0 (omega (arith, gap, from))
                ∙ sym (get_or_append_left (take offset old_bytes ++ pads ++ bytes) (drop (offset + length bytes) old_bytes) d k (omega (arith, to, long_three))
                ∙ (get_or_append_left (take offset old_bytes ++ pads) bytes d k (omega (arith, gap, long_two))
                ∙ (get_or-append_right (take offset old_bytes) pads (min offset e) k d long_first (omega (arith, from)) ∙ get_or-replicate (offset - e) (k - min offset e) 0 d (omega (arith, gap, from))))))
            | inr own ↦
                let same : k - min e offset - (offset - e) ≡ k - offset = omega (arith, own) in
                get_or-append_right pads bytes (offset - e) (k - min e offset) 0 long_pads (omega (arith, own))
                ∙ (ap (λ i. get_or bytes i 0) same
                ∙ (get_or_default bytes (k - offset) 0 d (omega (arith, own, to))
                ∙ sym (get_or_append_left (take offset old_bytes ++ pads ++ bytes) (drop (offset + length bytes) old_bytes) d k (omega (arith, to, long_three))
                ∙ get_or-append_right (take offset old_bytes ++ pads) bytes offset k d long_two own)))
          ]
    ]
  ]

  pub bytes_are : (g : ℕ → ℕ) → ((k : ℕ) → k < m → g k ≡ byte_written f (min e offset) (pads ++ bytes) k) → map g (range_with_len 0 m) ≡ all_bytes
  bytes_are g each =
      same_lists (map g (range_with_len 0 m)) parts (length-map-range_with_len g 0 m ∙ sym long_all) (λ k d low.
      let small : k < m = subst (λ (n : ℕ). k < n) (length-map-range_with_len g 0 m) low in
      get_or-map-range_with_len g 0 m k k d small (omega arith) ∙ (each k small ∙ part k d small))
      ∙ sym same_bytes

  -- the first so many of what is written
  pub first_are : (g : ℕ → ℕ) (done : ℕ) → done ≤ length (pads ++ bytes) → ((k : ℕ) → k < e → g k ≡ byte_written f (min e offset) (take done (pads ++ bytes)) k) → map g (range_with_len 0 e) ≡ first_written old_bytes all_bytes (min e offset + done)
  first_are g done low each =
      same_lists (map g (range_with_len 0 e)) (first_written old_bytes all_bytes at) (length-map-range_with_len g 0 e ∙ sym whole) (λ k d less.
      let small : k < e = subst (λ (n : ℕ). k < n) (length-map-range_with_len g 0 e) less in
      get_or-map-range_with_len g 0 e k k d small (omega arith) ∙ (each k small ∙ sym (get_or-take (length old_bytes) (take at all_bytes ++ drop at old_bytes) k d (let l = long in omega (arith, l, small)) ∙ one k d small)))
    where
      at : ℕ
      at = min e offset + done

      long_done : length (take done (pads ++ bytes)) ≡ done
      long_done = length-take-le done (pads ++ bytes) low

      at_most : at ≤ m
      at_most = let a = length-append pads bytes in let b = long_pads in omega (arith, a, b, low, size)

      long_front : length (take at all_bytes) ≡ at
      long_front = length-take-le at all_bytes (let a = at_most in let b = long_all in let c = ap (λ (x : List ℕ). length x) same_bytes in omega (arith, a, b, c))

      whole : length (first_written old_bytes all_bytes at) ≡ e
      whole =
          let t = length-take (length old_bytes) (take at all_bytes ++ drop at old_bytes) in
          omega (arith, long_front, length-drop at old_bytes, length-append (take at all_bytes) (drop at old_bytes), long, t)

      one : (k d : ℕ) → k < e → get_or (take at all_bytes ++ drop at old_bytes) k d ≡ byte_written f (min e offset) (take done (pads ++ bytes)) k
      one k d small = elim (cases_lt k at) [
        | inl lt ↦
            get_or_append_left (take at all_bytes) (drop at old_bytes) d k (omega (arith, long_front, lt))
            ∙ (get_or-take at all_bytes k d lt ∙ (ap (λ (x : List ℕ). get_or x k d) same_bytes ∙ (sym (part k d (omega (arith, small, size))) ∙ sym (front k lt))))
        | inr ge ↦
            get_or-append_right (take at all_bytes) (drop at old_bytes) at k d long_front ge
            ∙ (get_or-drop at old_bytes (k - at) d ∙ (get_or-map-range_with_len f 0 e (at + (k - at)) k d (omega (arith, ge, small)) (omega (arith, ge)) ∙ sym (test_above f (min e offset) (take done (pads ++ bytes)) k (omega (arith, long_done, ge)))))
      ]
        where
          front : (k : ℕ) → k < at → byte_written f (min e offset) (take done (pads ++ bytes)) k ≡ byte_written f (min e offset) (pads ++ bytes) k
          front k lt = elim (cases_lt k (min e offset)) [
            | inl first ↦ test_below f (min e offset) (take done (pads ++ bytes)) k first ∙ sym (test_below f (min e offset) (pads ++ bytes) k first)
            | inr from ↦
                test_in f (min e offset) (take done (pads ++ bytes)) k from (omega (arith, long_done, lt))
                ∙ (get_or-take done (pads ++ bytes) (k - min e offset) 0 (omega (arith, from, lt)) ∙ sym (test_in f (min e offset) (pads ++ bytes) k from (omega (arith, lt, low))))
          ]

-- A file

file_value : (content : ℕ → List ℕ) (fs n : ℕ) (inode : List ℕ) → Ok inode ≡ file_in content fs n → files_of content fs n ≡ File (inode_links inode) (bytes_value content inode)
file_value content fs n inode e = from (files_of content fs n) (inode_links inode) (bytes_value content inode) (ap (mapped (file_parts content)) e ∙ file_found content fs n)
  where
    from : (x : InodeValue) (links : ℕ) (bytes : List ℕ) → Ok (links, bytes) ≡ file_of x → x ≡ File links bytes
    from Absent links bytes e = absurd (cc e)
    from Free links bytes e = absurd (cc e)
    from Unusable links bytes e = absurd (cc e)
    from (Directory l bs) links bytes e = absurd (cc e)
    from (File l bs) links bytes e =
        let same : (links, bytes) ≡ (l, bs) = same_ok (links, bytes) (l, bs) e in
        λ i. File ((sym same i).0) ((sym same i).1)

pub looked : (content : ℕ → List ℕ) (fs n size : ℕ) (inode : List ℕ) → Ok inode ≡ write_in content fs n size → (Ok inode ≡ file_in content fs n) × (size ≤ most_bytes)
unfolding write_in
looked content fs n size inode e =
    let p = passed (file_in content fs n) (λ i. if nat_lt most_bytes size then Err TooLarge else Ok i) inode e in
    let t = not_first (nat_lt most_bytes size) TooLarge (Ok p.0) inode p.2 in
    (t.1 ∙ p.1, elim (cases_lt most_bytes size) [ inl lt ↦ absurd (cc (sym (lt-ltb most_bytes size lt) ∙ t.0)) | inr ge ↦ ge ])

module _ (old : StoreState) (fs n offset : ℕ) (inode : List ℕ) (is : Ok inode ≡ file_in (latest old.lives) fs n) where
  abbrev v : ℕ → List ℕ
  v = latest old.lives

  abbrev pub files : Files
  files = files_of v fs

  abbrev pub file : ℕ × List ℕ
  file = (inode_links inode, bytes_value v inode)

  pub file_is : file_of (files n) ≡ Ok file
  file_is = sym (ap (mapped (file_parts v)) is ∙ file_found v fs n)

  abbrev next : List ℕ → Bool → Answer (Unit {0})
  next bytes t = if t then Ok (tt, files) else Ok (tt, with_value files n (File file.0 (written_bytes file.1 offset bytes)))

  pub answer_is : (bytes : List ℕ) → offset + length bytes ≤ most_bytes → written files n offset bytes ≡ next bytes (length bytes == 0)
  answer_is bytes low = ap (λ x. and_then x (written_in files n offset bytes)) file_is ∙ ap (λ (t : Bool). if t then Err TooLarge else next bytes (length bytes == 0)) (le-ltb most_bytes (offset + length bytes) low)

  -- no bytes
  pub none_leads : offset ≤ most_bytes → written files n offset [] ≡ Ok (tt, files)
  none_leads low = answer_is [] (omega (arith, low))

  pub some_leads : (bytes : List ℕ) → offset + length bytes ≤ most_bytes → length bytes ≢ 0 → written files n offset bytes ≡ Ok (tt, with_value files n (File file.0 (written_bytes file.1 offset bytes)))
  some_leads bytes low ne = answer_is bytes low ∙ ap (next bytes) (ne_eqb (length bytes) 0 ne)

  -- the bytes are written, and the size is raised
  pub written_leads : (middle new : StoreState) (bytes bs : List ℕ) → bs ≡ padded (file_end inode) offset bytes → offset + length bytes ≤ most_bytes → (a : Puts old middle fs n (min (file_end inode) offset) bs) →
      IsRaised (latest middle.lives) (latest new.lives) fs n (a.wrote inode is).after (offset + length bytes) → OnlyChanges (latest middle.lives) (latest new.lives) fs n → (x : Unit {0}) →
      Leads (Ok (tt, with_value files n (File file.0 (written_bytes file.1 offset bytes)))) (latest new.lives) fs x
  written_leads middle new bytes bs same low a r others x =
      let w = latest new.lives in
      let k = a.wrote inode is in
      let end : file_end r.after ≡ max (file_end inode) (offset + length bytes) = ap (λ s. min s most_bytes) (r.sized ∙ ap (λ s. max s (offset + length bytes)) k.size) ∙ end_raised (word_at inode 4) (offset + length bytes) low in
      let each : (at : ℕ) → at < file_end r.after → byte_of w r.after at ≡ byte_written (byte_of v inode) (min (file_end inode) offset) (padded (file_end inode) offset bytes) at = λ at less.
      r.each at (omega (arith, less)) ∙ (k.each at (omega (arith, less)) ∙ ap (λ (m : List ℕ). byte_written (byte_of v inode) (min (file_end inode) offset) m at) same) in
      let value : files_of w fs n ≡ File file.0 (written_bytes file.1 offset bytes) = file_value w fs n r.after r.file
      ∙ (ap (λ l. File l (bytes_value w r.after)) (r.marks.1 ∙ k.marks.1) ∙ ap (File (inode_links inode)) (bytes_are (byte_of v inode) (file_end inode) (file_end r.after) offset bytes end (byte_of w r.after) each)) in
      (refl, λ i. ap (λ (g : Files). g i) (value_at v w fs n _ value (λ d other. same_on v (latest middle.lives) w fs d (a.others d other) (others d other))))

  -- the first so many are
  pub first_files : (before : StoreState) (bytes : List ℕ) (done : ℕ) → done ≤ length (padded (file_end inode) offset bytes) → Puts old before fs n (min (file_end inode) offset) (take done (padded (file_end inode) offset bytes)) →
      files_of (latest before.lives) fs ≡ written_to files n offset bytes file (min (file_end inode) offset + done)
  first_files before bytes done few a =
      let w = latest before.lives in
      let k = a.wrote inode is in
      let end : file_end k.after ≡ file_end inode = ap (λ s. min s most_bytes) k.size in
      let value : files_of w fs n ≡ File file.0 (first_written file.1 (written_bytes file.1 offset bytes) (min (file_end inode) offset + done)) = file_value w fs n k.after k.file
      ∙ (ap (λ l. File l (bytes_value w k.after)) k.marks.1
      ∙ (ap (λ l. File (inode_links inode) (map (byte_of w k.after) (range_with_len 0 l))) end
      ∙ ap (File (inode_links inode)) (first_are (byte_of v inode) (file_end inode) (max (file_end inode) (offset + length bytes)) offset bytes refl (byte_of w k.after) done few (λ at less. k.each at (omega (arith, less)))))) in
      value_at v w fs n _ value a.others
