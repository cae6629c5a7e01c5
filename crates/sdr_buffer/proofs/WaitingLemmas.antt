-- What waits in a buffer, and what an output took of it.
use Rattle.std.proofs.Common.{◌≡◌, ◌≤◌, ◌+◌, ℕ, List, [], ◌++◌, None, Some, Result, Ok, Err, length, take, drop, ap, sym, ◌∙◌, refl, subst, append_assoc, append-nil, take-append-drop, OnErr, OnOk, arith, length-append}
use Rattle.std.specs.declared.option.Option.{Option}
use Rattle.std.specs.Io.KnownBytes.{Appends, Keeps, append_known}
use Rattle.std.proofs.KnownBytes.{Appends-nil, Appends-trans, Appends-kept, append_known-moved}
use Rattle.sdr_base.specs.Written.{AppendsPart}
use Rattle.sdr_buffer.specs.Waiting.{Grows, Waiting}
use Rattle.std.proofs.lemmas.List.{append_cancel_left}
use lib.Seq.{take-add, take-append_seam, take-take}

-- so many bytes from a place on were written, behind the first ones
pub writes_more : (a b c : Option (List ℕ)) (bytes : List ℕ) (n m k : ℕ) → Appends a b (take n bytes) → m ≤ k → Appends b c (take m (take k (drop n bytes)))
    → Appends a c (take (n + m) bytes)
writes_more a b c bytes n m k first few more =
    let joined = ap (λ l. take n bytes ++ l) (take-take m k (drop n bytes) few) ∙ sym (take-add n m bytes) in
    subst (Appends a c) joined (Appends-trans a b c (take n bytes) (take m (take k (drop n bytes))) first more)

pub ruleset writing = (writes_more, Appends-nil, Appends-kept)

-- a part of these bytes went out
pub part_of : {T E : Type 0} (r : Result T E) (old new : Option (List ℕ)) (bytes : List ℕ) (n : ℕ) → Appends old new (take n bytes) → OnErr r (AppendsPart old new bytes)
part_of (Ok x) old new bytes n a = tt
part_of (Err e) old new bytes n a = record { front = take n bytes; rest = drop n bytes; written = a; whole = sym (take-append-drop n bytes) }

-- what went out of the bytes that wait, and what waits of them still
pub moved_on : (old new : Option (List ℕ)) (bytes rest : List ℕ) (n : ℕ) → Appends old new (take n bytes) → rest ≡ drop n bytes → Keeps (append_known old bytes) (append_known new rest)
moved_on old new bytes rest n a e = append_known-moved old new (take n bytes) rest bytes a (sym (take-append-drop n bytes) ∙ ap (λ l. take n bytes ++ l) (sym e))

-- these bytes wait, and none was refused
abbrev pub waiting_unrefused : List ℕ → Waiting
waiting_unrefused bytes = record { bytes = bytes; refused = 0 }

pub waiting_of : (bytes others : List ℕ) → bytes ≡ others → waiting_unrefused bytes ≡ waiting_unrefused others
waiting_of bytes others e = ap waiting_unrefused e

-- the text fits behind what waits
pub fits : (out : Option (List ℕ)) (old new text : List ℕ) → new ≡ old ++ text → Appends (append_known out old) (append_known out new) text
fits None old new text e = tt
fits (Some x) old new text e = ap (λ l. x ++ l) e ∙ sym (append_assoc x old text)

-- the output took a part of these bytes, and so some
pub grows_part : (old new : Option (List ℕ)) (bytes : List ℕ) → AppendsPart old new bytes → Grows old new
grows_part old new bytes p = record { more = p.front; written = p.written }

-- it took these bytes, and of others all or a part
pub grows_both : {T E : Type 0} (r : Result T E) (a b c : Option (List ℕ)) (first text : List ℕ) → Appends a b first → OnOk r (Appends b c text) → OnErr r (AppendsPart b c text)
    → Grows a c
grows_both (Ok x) a b c first text p ok err = record { more = first ++ text; written = Appends-trans a b c first text p ok }
grows_both (Err e) a b c first text p ok err = record { more = first ++ err.front; written = Appends-trans a b c first err.front p err.written }

-- nothing of a text was taken
pub none_of : {T E : Type 0} (r : Result T E) (old new : Option (List ℕ)) (text : List ℕ) → Keeps old new → OnErr r (AppendsPart old new text)
none_of (Ok x) old new text k = tt
none_of (Err e) old new text k = record { front = []; rest = text; written = Appends-kept old old new [] (Appends-nil old) k; whole = refl }

-- of no text all was taken
pub all_of_none : {T E : Type 0} (r : Result T E) (old new : Option (List ℕ)) → Keeps old new → OnOk r (Appends old new [])
all_of_none (Ok x) old new k = Appends-kept old old new [] (Appends-nil old) k
all_of_none (Err e) old new k = tt

-- nothing waits behind known bytes
pub append_known-nil : (known : Option (List ℕ)) → append_known known [] ≡ known
append_known-nil None = refl
append_known-nil (Some x) = ap Some (append-nil x)

pub ruleset passing = (grows_part, grows_both, none_of)

-- of the bytes that were put behind others, those are left that waited before
pub cut_back : (old new text : List ℕ) → AppendsPart (Some old) (Some new) text → take (length old) new ≡ old
cut_back old new text p = ap (take (length old)) p.written ∙ take-append_seam old p.front

-- a full buffer holds no more than what waited and what was put
pub full_of : (old new text : List ℕ) → AppendsPart (Some old) (Some new) text → length new ≤ length old + length text
full_of old new text p = omega (arith, ap length p.written, ap length p.whole, length-append old p.front, length-append p.front p.rest)

-- ---- for those who put several texts

pub grows_none : (out : Option (List ℕ)) → Grows out out
grows_none out = record { more = []; written = Appends-nil out }

pub grows_more : (a b c : Option (List ℕ)) → Grows a b → Grows b c → Grows a c
grows_more a b c p q = record { more = p.more ++ q.more; written = Appends-trans a b c p.more q.more p.written q.written }

pub ruleset growing = (grows_none, grows_more, grows_part)

-- where nothing waited before and nothing waits now, the output took the text
pub all_passed : (old new : Option (List ℕ)) (before waiting text : List ℕ) → before ≡ [] → waiting ≡ [] → Appends (append_known old before) (append_known new waiting) text
    → Appends old new text
all_passed None new before waiting text none empty a = tt
all_passed (Some x) None before waiting text none empty a = absurd a
all_passed (Some x) (Some y) before waiting text none empty a =
    sym (append-nil y) ∙ ap (λ l. y ++ l) (sym empty) ∙ a ∙ ap (λ l. (x ++ l) ++ text) none ∙ ap (λ l. l ++ text) (append-nil x)

-- of a text that was taken up to what waits, the output took a part
pub part_passed : (old new : Option (List ℕ)) (before waiting text : List ℕ) → before ≡ [] → Grows old new → AppendsPart (append_known old before) (append_known new waiting) text
    → AppendsPart old new text
part_passed None new before waiting text none grows p = record { front = []; rest = text; written = tt; whole = refl }
part_passed (Some x) None before waiting text none grows p = absurd grows.written
part_passed (Some x) (Some y) before waiting text none grows p =
    let taken : x ++ (grows.more ++ waiting) ≡ x ++ p.front =
    sym (append_assoc x grows.more waiting) ∙ ap (λ l. l ++ waiting) (sym grows.written) ∙ p.written ∙ ap (λ l. (x ++ l) ++ p.front) none ∙ ap (λ l. l ++ p.front) (append-nil x)
    in
    record {
      front = grows.more;
      rest = waiting ++ p.rest;
      written = grows.written;
      whole = p.whole ∙ ap (λ l. l ++ p.rest) (sym (append_cancel_left x (grows.more ++ waiting) p.front taken)) ∙ append_assoc grows.more waiting p.rest;
    }

-- a text was put where nothing waited, and then what waits was passed on
module _ {T E : Type 0} (r : Result T E) (old now new : Option (List ℕ)) (before waiting after text : List ℕ) (none : before ≡ [])
    (put : Appends (append_known old before) (append_known now waiting) text) (same : Keeps (append_known now waiting) (append_known new after)) where
  all_put : Appends (append_known old before) (append_known new after) text
  all_put = Appends-kept (append_known old before) (append_known now waiting) (append_known new after) text put same

  -- the output took all of it
  pub passed_ok : OnOk r (after ≡ []) → OnOk r (Appends old new text)
  passed_ok = elim r as (λ x. OnOk x (after ≡ []) → OnOk x (Appends old new text)) [
    | Ok x ↦ λ empty. all_passed old new before after text none empty all_put
    | Err e ↦ λ no. tt
  ]

  -- or a part of it
  pub passed_err : Grows old now → OnErr r (AppendsPart now new waiting) → OnErr r (AppendsPart old new text)
  passed_err grows = elim r as (λ x. OnErr x (AppendsPart now new waiting) → OnErr x (AppendsPart old new text)) [
    | Ok x ↦ λ no. tt
    | Err e ↦ λ part.
        part_passed old new before after text none (grows_more old now new grows (grows_part now new waiting part))
        (record { front = text; rest = []; written = all_put; whole = sym (append-nil text) })
  ]
