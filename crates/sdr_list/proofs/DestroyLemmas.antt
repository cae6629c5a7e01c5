-- The elements of a list are given back, and then the list.
use Rattle.std.proofs.Common.{◌≡◌, ℕ, ◌+◌, ◌-◌, ◌≤◌, ◌<◌, List, [], ◌∷◌, ◌++◌, length, map, None, Some}
use Rattle.std.proofs.Common.{sym, ap, ◌∙◌, subst, arith, append_assoc, append-nil, Option}
use Rattle.std.specs.Prelude.{All}
use Rattle.std.proofs.lemmas.List.{map-append}
use Rattle.std.proofs.lemmas.List.Elements.{All-tail}
use Rattle.sdr_base.specs.Blocks.{Block, Blocks, IsKind, Reaches}
use Rattle.sdr_base.specs.Entries.{Entries, BlocksAre}
use Rattle.sdr_base.specs.Linked.{first_of, last_of}
use Rattle.sdr_base.specs.Stored.{number_at}
use Rattle.sdr_base.specs.Lists.{ElementFits, ListRow, KeepsList, addr_of, element_block, elements_between, list_block, list_entries}
use Rattle.sdr_base.specs.Making.{GaveSome, gave}
use Rattle.sdr_base.specs.Objects.{Heap, OnlyUnmoved, with_given}
use Rattle.sdr_base.specs.Words.{HasWord}
use Rattle.sdr_base.specs.declared.kind.Kind.TheVariants as kinds
use Rattle.sdr_base.specs.declared.kind.Kind.{Kind}
use Rattle.sdr_base.specs.declared.moves.Move.{Move}
use Rattle.sdr_base.specs.declared.moves.Move.TheVariants.{Gave}
use Rattle.sdr_base.specs.declared.refusal.Refusal.TheVariants.{LogFull}
use Rattle.sdr_base.specs.declared.stop.Stop.{Stop}
use Rattle.sdr_base.specs.declared.stop.Stop.TheVariants.{Refused, DiskFault, MediaFault, Failed}
use Rattle.sdr_base.proofs.GaveLemmas.{one_gave}
use Rattle.sdr_base.proofs.HeapLemmas.{given_blocks}
use Rattle.sdr_base.proofs.StandingLemmas.{found, moved_back, went}
use Rattle.sdr_base.proofs.WritingLemmas.{reaches, word_is}
use Rattle.sdr_list.specs.Destroying.{DestroysList, DestroyStops}
use Rattle.sdr_list.specs.Giving.{ChainAt, GiveStops, GivesElements, GivesChain, Gone, SomeChain}
use Rattle.sdr_list.proofs.GivingLemmas.{length-addrs, part_begun, part_found, part_given, part_made, part_more, part_some, part_spare, part_stands}
use Rattle.sdr_list.specs.Kept.{SomeList, elements_in, if_list}
use Rattle.sdr_list.proofs.KeptLemmas.{elements_are, first_fits, first_is, length_is, list_words, words}

pub start : {old : Heap} {first count : ℕ} → GivesElements old old first count first 0
start {old} = record {
  gives = λ list prev xs rest c. part_begun ElementFits addr_of (element_block list) 0 prev xs rest c.stands c.at_first c.fits;
}

-- one more was given back
pub onward : {old now new : Heap} {first count cursor i next : ℕ} → GivesElements old now first count cursor i →
    i < count →
    HasWord (now.blocks cursor) 2 next → new ≡ with_given now cursor → GivesElements old new first count next (i + 1)
onward {old} {now} {new} {first} {count} {cursor} {i} {next} s more h g = record {
  gives = λ list prev xs rest c.
      let p = s.gives list prev xs rest c in
      let counted = c.counted in
      let n = part_more ElementFits addr_of (element_block list) 0 p (omega (arith, counted, more)) in
      part_given ElementFits addr_of (element_block list) 0 p new next n
      (word_is (now.blocks cursor) kinds.Element (words list p.prev (first_of addr_of 0 n.tail) n.head.datum) [] 2 next
      (part_found ElementFits addr_of (element_block list) 0 p n) (omega arith)
      (first_fits 0 n.tail (omega arith) (All-tail ElementFits n.head n.tail (subst (All ElementFits) n.is p.holds))) h) g;
}

-- the next one is there
pub cursor_reaches : {old now : Heap} {first count cursor i : ℕ} → SomeChain old.blocks first count → GivesElements old now first count cursor i → i < count →
    Reaches (now.blocks cursor) 32
cursor_reaches {old} {now} {first} {count} {cursor} {i} c s more =
    let p = s.gives c.list c.prev c.xs c.rest c.is in
    let counted = c.is.counted in
    let n = part_more ElementFits addr_of (element_block c.list) 0 p (omega (arith, counted, more)) in
    reaches (now.blocks cursor) kinds.Element (words c.list p.prev (first_of addr_of 0 n.tail) n.head.datum) [] 32
    (part_found ElementFits addr_of (element_block c.list) 0 p n) (omega arith)

-- there is room for one more move
pub spare_left : {old now : Heap} {first count cursor i : ℕ} → SomeChain old.blocks first count → GivesElements old now first count cursor i → i < count →
    count ≤ old.spare → 1 ≤ now.spare
spare_left {old} {now} {count = count} {i = i} c s more enough =
    let p = s.gives c.list c.prev c.xs c.rest c.is in
    let e = part_spare ElementFits addr_of (element_block c.list) 0 p in omega (arith, e, more, enough)

-- a stop after some were given back
pub stopped : {old now : Heap} {first count cursor i : ℕ} (new : Heap) (stop : Stop) → GivesElements old now first count cursor i → OnlyUnmoved now new stop →
    GiveStops first count old new stop
stopped new (Refused (LogFull lines room)) s u = record {
  gives = λ list prev xs rest c.
      part_some ElementFits addr_of (element_block list) 0 (s.gives list prev xs rest c) new u.moves u.spare;
}
stopped new (Refused refusal) s u = absurd u
stopped new DiskFault s u = tt
stopped new MediaFault s u = absurd u
stopped new Failed s u = tt

-- at the end all were given back
pub ended : {old now : Heap} {first count cursor i : ℕ} → GivesElements old now first count cursor i → i ≡ count → GivesChain old now first count
ended {old} {now} {first} {count} {cursor} {i} s e = record {
  gives = λ list prev xs rest c.
      let p = s.gives list prev xs rest c in
      let counted = c.counted in
      let done : i ≡ length xs = omega (arith, counted, e) in
      record {
        stands = part_stands ElementFits addr_of (element_block list) 0 p done;
        made = part_made ElementFits addr_of (element_block list) 0 p done;
      };
}

-- the length word of a list is how many elements it has
elements_by : (o : Option Block) (n : ℕ) → IsKind o kinds.List → HasWord o 1 n → elements_in o ≡ n
elements_by None n kind h = absurd kind
elements_by (Some block) n kind h = ap (λ (k : Kind). if_list k (number_at 8 block.bytes)) kind ∙ sym h

pub elements_is : (b : Blocks) (list n : ℕ) → IsKind (b list) kinds.List → HasWord (b list) 1 n → elements_in (b list) ≡ n
elements_is b list n kind h = elements_by (b list) n kind h

-- the block of a list
abbrev head : ListRow → Block
head row = list_block row.user (length row.elements) (first_of addr_of 0 row.elements) (last_of addr_of 0 row.elements)

-- its elements are a chain before its own block
pub chain_at : {b : Blocks} {list first n : ℕ} {row : ListRow} → HasWord (b list) 1 n → HasWord (b list) 2 first → KeepsList b list row → (rest : Entries) →
    BlocksAre b (list_entries list row ++ rest) → ChainAt b first n list 0 row.elements ((list, head row) ∷ rest)
chain_at {b} {list} {first} {n} {row} h f k rest s = record {
  stands = moved_back (elements_between list 0 0 row.elements) ((list, head row) ∷ []) rest s;
  at_first = first_is f k;
  counted = length_is h k;
  fits = k.fits.elements;
}

pub some_chain : {b : Blocks} {list first n : ℕ} → HasWord (b list) 1 n → HasWord (b list) 2 first → SomeList b list → SomeChain b first n
some_chain {list = list} h f k = record {
  list = list;
  prev = 0;
  xs = k.row.elements;
  rest = (list, head k.row) ∷ k.keeps.rest;
  is = chain_at h f k.keeps k.keeps.rest k.keeps.stands;
}

-- what is known once the elements were given back
gone_of : {list first n : ℕ} {old mid : Heap} {row : ListRow} → HasWord (old.blocks list) 1 n → HasWord (old.blocks list) 2 first → KeepsList old.blocks list row →
    (rest : Entries) → BlocksAre old.blocks (list_entries list row ++ rest) → GivesChain old mid first n →
    Gone old mid row.elements ((list, head row) ∷ rest)
gone_of {list} {row = row} h f k rest s g = g.gives list 0 row.elements ((list, head row) ∷ rest) (chain_at h f k rest s)

-- the list is there still
pub list_left : {list first n : ℕ} {old mid : Heap} → HasWord (old.blocks list) 1 n → HasWord (old.blocks list) 2 first → SomeList old.blocks list →
    GivesChain old mid first n → Reaches (mid.blocks list) 0
list_left {list} {first} {n} {old} {mid} h f k g =
    reaches (mid.blocks list) kinds.List (list_words k.row) [] 0
    (found mid.blocks list (head k.row) [] k.keeps.rest (gone_of h f k.keeps k.keeps.rest k.keeps.stands g).stands) (omega arith)

-- and there is room for its move
pub spare_one : {list first n : ℕ} {old mid : Heap} → IsKind (old.blocks list) kinds.List → HasWord (old.blocks list) 1 n → HasWord (old.blocks list) 2 first →
    SomeList old.blocks list → GivesChain old mid first n → elements_in (old.blocks list) + 1 ≤ old.spare → 1 ≤ mid.spare
spare_one {old = old} {mid = mid} kind h f k g enough =
    let m = gone_of h f k.keeps k.keeps.rest k.keeps.stands g in
    let e : mid.spare ≡ old.spare - length (gave (map addr_of k.row.elements)) = ap (λ (x : Heap). x.spare) m.made.all in
    let l = length-addrs addr_of k.row.elements in
    let are = elements_are k.keeps in omega (arith, e, l, are, enough)

-- the whole end
pub destroys : {list first n : ℕ} {old mid : Heap} (new : Heap) → IsKind (old.blocks list) kinds.List → HasWord (old.blocks list) 1 n → HasWord (old.blocks list) 2 first →
    GivesChain old mid first n → new ≡ with_given mid list → DestroysList list old new
destroys {list} {old = old} {mid = mid} new kind h f g is = record {
  kind = kind;
  changes = λ row k. record {
    kept = λ rest s.
        subst (λ (b : Blocks). BlocksAre b rest) (sym (given_blocks list mid new is))
        (went mid.blocks list (head row) [] rest (gone_of h f k rest s g).stands);
  };
  made = λ row k. one_gave (map addr_of row.elements) list (gone_of h f k k.rest k.stands g).made is;
}

-- some first ones of the elements are some first ones of all
some_of : {old new : Heap} {addrs : List ℕ} (list : ℕ) → GaveSome addrs old new → GaveSome (addrs ++ list ∷ []) old new
some_of {addrs = addrs} list s = record {
  made = s.made;
  first = record {
    rest = s.first.rest ++ Gave list ∷ [];
    whole =
        map-append (λ (a : ℕ). Gave a) addrs (list ∷ []) ∙ ap (λ (ms : List Move). ms ++ Gave list ∷ []) s.first.whole
        ∙ append_assoc s.made s.first.rest (Gave list ∷ []);
  };
  moves = s.moves;
  spare = s.spare;
}

-- a stop among the elements
pub stopped_within : (list first n : ℕ) (old new : Heap) (stop : Stop) → IsKind (old.blocks list) kinds.List → HasWord (old.blocks list) 1 n →
    HasWord (old.blocks list) 2 first → GiveStops first n old new stop → DestroyStops list old new stop
stopped_within list first n old new (Refused (LogFull lines room)) kind h f s = record {
  kind = kind;
  gave = λ row k. some_of list (s.gives list 0 row.elements ((list, head row) ∷ k.rest) (chain_at h f k k.rest k.stands));
}
stopped_within list first n old new (Refused refusal) kind h f s = absurd s
stopped_within list first n old new DiskFault kind h f s = tt
stopped_within list first n old new MediaFault kind h f s = absurd s
stopped_within list first n old new Failed kind h f s = tt

-- a stop at the list's own block
pub stopped_after : {first n : ℕ} {old mid : Heap} (list : ℕ) (new : Heap) (stop : Stop) → IsKind (old.blocks list) kinds.List → HasWord (old.blocks list) 1 n →
    HasWord (old.blocks list) 2 first → GivesChain old mid first n → OnlyUnmoved mid new stop → DestroyStops list old new stop
stopped_after {old = old} {mid = mid} list new (Refused (LogFull lines room)) kind h f g u = record {
  kind = kind;
  gave = λ row k.
      let m = gone_of h f k k.rest k.stands g in
      some_of list (record {
        made = gave (map addr_of row.elements);
        first = record { rest = []; whole = sym (append-nil (gave (map addr_of row.elements))) };
        moves = u.moves ∙ ap (λ (x : Heap). x.moves) m.made.all;
        spare = u.spare ∙ ap (λ (x : Heap). x.spare) m.made.all;
      });
}
stopped_after list new (Refused refusal) kind h f g u = absurd u
stopped_after list new DiskFault kind h f g u = tt
stopped_after list new MediaFault kind h f g u = absurd u
stopped_after list new Failed kind h f g u = tt
