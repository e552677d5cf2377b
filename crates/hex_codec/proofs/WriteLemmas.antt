-- What the passes over the pieces of a grouped text keep.
use Rattle.std.proofs.Common.{rules, ◌≡◌, Bool, ℕ, ◌+◌, ◌-◌, ◌*◌, ◌<◌, ◌≤◌, refl, sym, ap, ◌∙◌, arith}
use Rattle.std.proofs.Common.{Option, Some, None, Ok, ◌^◌, List, ◌∷◌, ◌++◌, length, take, drop, get_or}
use Rattle.std.proofs.Common.{option_map, append_assoc, length-drop}
use Rattle.std.proofs.Math.ListN.{length-set, set}
use Rattle.std.proofs.lemmas.Bool.Decides.{nat_tests}
use Rattle.std.proofs.lemmas.List.{drop-drop, drop-set-lt, get_or-drop, length-take-le, places, take_more_set}
use Rattle.std.proofs.lemmas.Slice.{drop-put_mid, take-put_mid}
use borrow.Rule.Slice.PartMut.{put_mid}
use Rattle.hex_core.specs.declared.digit.CheckCase.{CheckCase}
use Rattle.hex_core.specs.Refusal.{room_refusal}
use Rattle.hex_core.specs.Search.{first_invalid}
use Rattle.hex_core.specs.Text.{Spells, text, with_front}
use Rattle.hex_core.proofs.TextLemmas.{length-text}
use Rattle.hex_codec.specs.declared.group.Group.{Group}
use Rattle.hex_codec.specs.GroupCalls.{WritesGrouped}
use Rattle.hex_codec.specs.GroupedWriting.{grouped, piece_len, separator}
use Rattle.hex_codec.specs.GroupedReading.{GroupSpells, first_invalid_in_text, grouped_len}
use Rattle.hex_codec.proofs.CountLemmas.{len-most}
use Rattle.hex_codec.proofs.GroupLemmas.{grouped-last, grouped-more, len-last, len-more, length-grouped}
use Rattle.hex_codec.proofs.ListLemmas.{put-behind}
use Rattle.hex_codec.proofs.PartLemmas.{spells-last, spells-more, Clear, clear-part}
use Rattle.hex_codec.proofs.PartLemmas.{last-invalid, part-clear, separator-wrong}

-- ---- testing

module _ (c : CheckCase) (group : Group) where
  abbrev every : ℕ
  every = piece_len group

  abbrev n : ℕ
  n = 2 * every

  -- no byte before a place is wrong, and behind it is the text of this many bytes
  pub record Tests (s : List ℕ) (at left : ℕ) : Type 0 where
    pub long : length s ≡ at + grouped_len every left
    pub rest : first_invalid_in_text c group s ≡ option_map (λ i. at + i) (first_invalid_in_text c group (drop at s))

  further : (a b : ℕ) (o : Option ℕ) → option_map (λ i. a + i) (option_map (λ i. b + i) o) ≡ option_map (λ i. a + b + i) o
  further a b None = refl
  further a b (Some i) = ap Some (omega arith)

  -- there is a separator behind the next piece
  reached : (s : List ℕ) (at left : ℕ) → length s ≡ at + grouped_len every left → every < left → n < length (drop at s)
  reached s at left long more = omega (arith, long, len-more every left group.is_group.0 more, length-drop at s)

  pub tests-mark : (s : List ℕ) (at left : ℕ) → Tests s at left → every < left → first_invalid c (take n (drop at s)) ≡ None
      → (get_or s (at + n) 0 ≡ separator group → ⊥) → first_invalid_in_text c group s ≡ Some (at + n)
  tests-mark s at left so_far more valid differs =
      so_far.rest ∙ ap (option_map (λ i. at + i))
      (separator-wrong c group (drop at s) (reached s at left so_far.long more) valid (λ e. differs (sym (get_or-drop at s n 0) ∙ e)))

  pub tests-more : (s : List ℕ) (at left : ℕ) → Tests s at left → every < left → first_invalid c (take n (drop at s)) ≡ None
      → get_or s (at + n) 0 ≡ separator group → Tests s (at + n + 1) (left - every)
  tests-more s at left so_far more valid mark =
      let place : at + (n + 1) ≡ at + n + 1 = omega arith in
      record {
        long = omega (arith, so_far.long, len-more every left group.is_group.0 more);
        rest = so_far.rest
            ∙ ap (option_map (λ i. at + i)) (part-clear c group (drop at s) (reached s at left so_far.long more) valid (get_or-drop at s n 0 ∙ mark))
            ∙ further at (n + 1) _ ∙ rw (drop-drop (n + 1) at s, place) refl;
      }

  -- two digits for each byte of the last piece
  pub last-size : (s : List ℕ) (at left : ℕ) → length s ≡ at + grouped_len every left → left ≤ every → length (drop at s) ≡ 2 * left
  last-size s at left long short = omega (arith, long, len-last every left group.is_group.0 short, length-drop at s)

  pub tests-last : (s : List ℕ) (at left : ℕ) (o : Option ℕ) → Tests s at left → left ≤ every → first_invalid c (drop at s) ≡ o
      → first_invalid_in_text c group s ≡ option_map (λ i. at + i) o
  tests-last s at left o so_far short first =
      so_far.rest ∙ ap (option_map (λ i. at + i)) (last-invalid c group (drop at s) o (omega (arith, last-size s at left so_far.long short, short)) first)

  -- ---- reading

  -- the bytes before a place are written: with those that the rest spells they are what all spells
  pub record ReadsRest (s new : List ℕ) (at done : ℕ) : Type 0 where
    pub room : done ≤ length new
    pub long : length s ≡ at + grouped_len every (length new - done)
    pub clear : first_invalid_in_text c group (drop at s) ≡ None
    pub spells : (bytes : List ℕ) → GroupSpells c group (drop at s) bytes → GroupSpells c group s (take done new ++ bytes)

  pub next-clear : (s new : List ℕ) (at done : ℕ) → ReadsRest s new at done → every < length new - done → Clear c group (drop at s)
  next-clear s new at done so_far more = clear-part c group (drop at s) (reached s at (length new - done) so_far.long more) so_far.clear

  pub reads-more : (s old part : List ℕ) (at done : ℕ) → ReadsRest s old at done → every < length old - done
      → Spells c (take n (drop at s)) part → ReadsRest s (put_mid done every old part) (at + n + 1) (done + every)
  reads-more s old part at done so_far more digits =
      let front = length-take-le n (drop at s) (omega (arith, reached s at (length old - done) so_far.long more)) in
      let size : length part ≡ every = omega (arith, digits.twice, front) in
      let next = next-clear s old at done so_far more in
      let same : length (put_mid done every old part) ≡ length old = search (rules, places, size, so_far.room, more, arith) in
      let place : at + (n + 1) ≡ at + n + 1 = omega arith in
      let behind : drop (n + 1) (drop at s) ≡ drop (at + n + 1) s = rw (drop-drop (n + 1) at s, place) refl in
      let len = len-more every (length old - done) group.is_group.0 more in
      let cut : length old - (done + every) ≡ length old - done - every = omega arith in
      let left : length s ≡ at + n + 1 + grouped_len every (length old - (done + every)) = rw cut (omega (arith, so_far.long, len)) in
      record {
        room = rw same (omega (arith, more));
        long = rw same left;
        clear = rw behind at next.rest;
        spells = λ bytes h.
            rw (take-put_mid done every old part (done + every) (omega (arith, size)) so_far.room, append_assoc (take done old) part bytes)
            (so_far.spells (part ++ bytes) (spells-more c group (drop at s) part bytes size
            (omega (arith, h.long, len-most every (length bytes) group.is_group.0, length-drop (at + n + 1) s, left, more)) digits next.mark (rw behind h)));
      }

  pub reads-last : (s old part : List ℕ) (at done : ℕ) → ReadsRest s old at done → length old - done ≤ every → Spells c (drop at s) part
      → GroupSpells c group s (put_mid done (length old - done) old part)
  reads-last s old part at done so_far short digits =
      let size : length part ≡ length old - done = omega (arith, digits.twice, last-size s at (length old - done) so_far.long short) in
      rw (put-behind done old part so_far.room size) (so_far.spells part (spells-last c group (drop at s) part (omega (arith, size, short)) digits))

-- ---- writing

module _ (group : Group) (upper : Bool) where
  abbrev each : ℕ
  each = piece_len group

  -- the texts of the pieces before a place are written: with the text of the rest there, all is
  pub record WritesRest (bytes old new : List ℕ) (at done : ℕ) : Type 0 where
    pub inside : at ≤ length bytes
    pub long : done + grouped_len each (length bytes - at) ≡ grouped_len each (length bytes)
    pub room : grouped_len each (length bytes) ≤ length new
    pub so_far : put_mid done (grouped_len each (length bytes - at)) new (grouped group upper (drop at bytes)) ≡ with_front old (grouped group upper bytes)

  pub writes-none : (bytes old : List ℕ) → grouped_len each (length bytes) ≤ length old → WritesRest bytes old old 0 0
  writes-none bytes old room =
      let whole : length bytes - 0 ≡ length bytes = omega arith in
      record {
        inside = omega arith;
        long = rw whole (omega arith);
        room = room;
        so_far = rw whole (ap (λ n. grouped group upper bytes ++ drop n old) (sym (length-grouped group upper bytes)));
      }

  pub writes-more : (bytes old new : List ℕ) (at done : ℕ) → WritesRest bytes old new at done → each < length bytes - at
      → WritesRest bytes old (set (put_mid done (2 * each) new (text upper (take each (drop at bytes)))) (done + 2 * each) (separator group)) (at + each) (done + 2 * each + 1)
  writes-more bytes old new at done before more =
      let rest = drop at bytes in
      let part = text upper (take each rest) in
      let put = put_mid done (2 * each) new part in
      let next = set put (done + 2 * each) (separator group) in
      let left = length-drop at bytes in
      let long : each < length rest = omega (arith, left, more) in
      let size : length part ≡ 2 * each = omega (arith, length-text upper (take each rest), length-take-le each rest (omega (arith, long))) in
      let len = len-more each (length bytes - at) group.is_group.0 more in
      let cut : length bytes - (at + each) ≡ length bytes - at - each = omega arith in
      let total = grouped_len each (length bytes) in
      let here = grouped_len each (length bytes - at) in
      let further = grouped_len each (length bytes - at - each) in
      let same : length put ≡ length new = search (rules, places, size, before.room, before.long, len, arith) in
      let last : done + 2 * each < length put = omega (arith, same, before.room, before.long, len) in
      let behind = grouped group upper (drop each rest) in
      let sum : done + 2 * each + 1 + further ≡ total = omega (arith, before.long, len) in
      let kept : drop total next ≡ drop total new =
      drop-set-lt total put (done + 2 * each) (separator group) (omega (arith, sum))
      ∙ drop-put_mid done (2 * each) new part total (omega (arith, sum)) (omega (arith, before.room, before.long)) size in
      let tail : drop further (drop (done + 2 * each + 1) next) ≡ drop here (drop done new) =
      rw (drop-drop further (done + 2 * each + 1) next, sum, drop-drop here done new, before.long) kept in
      let whole : take done new ++ ((part ++ (separator group ∷ behind)) ++ drop here (drop done new)) ≡ with_front old (grouped group upper bytes) =
      rw (grouped-more group upper rest long) at before.so_far in
      record {
        inside = omega (arith, more);
        long = rw cut sum;
        room = rw (length-set put (done + 2 * each) (separator group), same) before.room;
        so_far = rw (
          cut,
          tail,
          take_more_set put (done + 2 * each) (separator group) last,
          take-put_mid done (2 * each) new part (done + 2 * each) (omega (arith, size)) (omega (arith, before.room, before.long)),
          ← drop-drop each at bytes,
        ) (simp append_assoc (simp append_assoc at whole));
      }

  pub writes-last : (bytes old new : List ℕ) (at done : ℕ) → WritesRest bytes old new at done → length bytes - at ≤ each
      → grouped_len each (length bytes) ≤ length old → length old < 2 ^ 64
      → WritesGrouped group upper bytes old (put_mid done (2 * (length bytes - at)) new (text upper (drop at bytes))) (Ok (done + 2 * (length bytes - at)))
  writes-last bytes old new at done before short room fits =
      let rest = drop at bytes in
      let last = grouped-last group upper rest (omega (arith, length-drop at bytes, short)) in
      let len = len-last each (length bytes - at) group.is_group.0 short in
      let none : room_refusal (grouped_len each (length bytes)) (length old) ≡ None = grind (arith, nat_tests) in
      (none, (grouped group upper bytes, refl, omega (arith, len, before.long, length-grouped group upper bytes), rw (len, last) at before.so_far))
