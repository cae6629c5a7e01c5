-- The entries of a hash are given back bucket by bucket, and then the hash.
use Rattle.std.proofs.Common.{◌≡◌, ℕ, ◌+◌, ◌-◌, ◌*◌, ◌≤◌, ◌<◌, List, [], ◌∷◌, ◌++◌, length, map, take, drop, get_or, Option, Some, None, refl, sym, ap, ◌∙◌, arith, subst, append_assoc, append-nil, length-append}
use Rattle.std.specs.Prelude.{flat_map, sum_by}
use Rattle.std.proofs.lemmas.Grind.{flat_map-append}
use Rattle.std.proofs.lemmas.List.{drop_more, length-map, map-append, take-append-drop, take_all, take_more}
use Rattle.std.proofs.lemmas.List.Sums.{sum_by-cons, sum_by-drop_more, sum_by-take-drop}
use Rattle.std.proofs.Math.ListN.{drop_of_length-le}
use Rattle.sdr_base.specs.Blocks.{Block, Blocks, IsKind, Reaches}
use Rattle.sdr_base.specs.Entries.{Entries, Few, BlocksAre}
use Rattle.sdr_base.specs.Hashes.{HashItem, HashRow, bucket_entries, hash_block, hash_entries, item_addr}
use Rattle.sdr_base.specs.Making.{GaveSome, Made, gave}
use Rattle.sdr_base.specs.Objects.{Heap, OnlyUnmoved, with_given}
use Rattle.sdr_base.specs.Stored.{number_at}
use Rattle.sdr_base.specs.Words.{HasWord}
use Rattle.sdr_base.specs.declared.kind.Kind.{Kind}
use Rattle.sdr_base.specs.declared.kind.Kind.TheVariants as kinds
use Rattle.sdr_base.specs.declared.moves.Move.{Move}
use Rattle.sdr_base.specs.declared.moves.Move.TheVariants.{Gave}
use Rattle.sdr_base.specs.declared.refusal.Refusal.TheVariants.{LogFull}
use Rattle.sdr_base.specs.declared.stop.Stop.{Stop}
use Rattle.sdr_base.specs.declared.stop.Stop.TheVariants.{Refused, DiskFault, MediaFault, Failed}
use Rattle.sdr_base.proofs.GaveLemmas.{made_then, none_made, one_gave, some_then}
use Rattle.sdr_base.proofs.HeapLemmas.{given_blocks}
use Rattle.sdr_base.proofs.StandingLemmas.{found, went}
use Rattle.sdr_base.proofs.WritingLemmas.{reaches}
use Rattle.sdr_hash.specs.Destroying.{DestroysHash, DestroyStops, GivesBuckets, addrs_in, entries_in, if_hash}
use Rattle.sdr_hash.specs.Giving.{GivesBucket, GiveStops, Gone, OpenedAt, SomeOpened}
use Rattle.sdr_hash.specs.Kept.{HashFits, KeepsHash, SomeHash}
use Rattle.sdr_hash.specs.Opened.{IsOpened}
use Rattle.sdr_hash.specs.declared.bucket.Link.{Link}
use Rattle.sdr_hash.proofs.KeptLemmas.{buckets_is, entries_is, few_entries, hash_words}
use Rattle.sdr_hash.proofs.OpenedLemmas.{opened}

-- the addresses in buckets are as many as their entries
length-addrs_in : (buckets : List (List HashItem)) → length (gave (addrs_in buckets)) ≡ sum_by length buckets
length-addrs_in [] = refl
length-addrs_in (items ∷ buckets) =
    let ih = length-addrs_in buckets in
    let c = sum_by-cons (length {A = HashItem}) items buckets in
    let l : length (gave (addrs_in (items ∷ buckets))) ≡ length (map item_addr items ++ addrs_in buckets) =
    length-map (map item_addr items ++ addrs_in buckets) (λ a. Gave a) in
    let a = length-append (map item_addr items) (addrs_in buckets) in
    let m = length-map items item_addr in
    let n : length (gave (addrs_in buckets)) ≡ length (addrs_in buckets) = length-map (addrs_in buckets) (λ a. Gave a) in
    omega (arith, ih, c, l, a, m, n)

-- the count of a hash is its entries'
entries_by : (o : Option Block) (n : ℕ) → IsKind o kinds.Hash → HasWord o 2 n → entries_in o ≡ n
entries_by None n kind h = absurd kind
entries_by (Some block) n kind h = ap (λ (k : Kind). if_hash k (number_at 16 block.bytes)) kind ∙ sym h

pub entries_in_is : (b : Blocks) (hash n : ℕ) → IsKind (b hash) kinds.Hash → HasWord (b hash) 2 n → entries_in (b hash) ≡ n
entries_in_is b hash n kind h = entries_by (b hash) n kind h

module _ (old : Heap) (hash size count buckets : ℕ) (few : Few size old.blocks) (small : size ≤ 64 * 262144)
    (c : HasWord (old.blocks hash) 2 count)
    (n : HasWord (old.blocks hash) 1 buckets) where
  -- none is gone
  pub begun : GivesBuckets old old hash 0 count
  begun = record {
    gives = λ row rest s fits.
        let k : KeepsHash old.blocks hash row = record { rest = rest; stands = s; fits = fits } in
        record { stands = s; counted = entries_is k few small c; made = none_made old };
  }

  module _ {now : Heap} {bucket left : ℕ} (g : GivesBuckets old now hash bucket left) (front : Link)
      (less : bucket < buckets) (a : front.addr ≡ hash)
      (f : front.field ≡ 3 + bucket) where
    -- the next bucket is opened
    opened_at : (row : HashRow) (rest : Entries) → BlocksAre old.blocks (hash_entries hash row ++ rest) → HashFits row →
        OpenedAt now.blocks front left row.key_length (hash_words row) (get_or row.buckets bucket [])
        (flat_map bucket_entries (drop (bucket + 1) row.buckets) ++ rest)
    opened_at row rest s fits =
        let k : KeepsHash old.blocks hash row = record { rest = rest; stands = s; fits = fits } in
        let b = g.gives row rest s fits in
        let items = get_or row.buckets bucket [] in
        let all = buckets_is k n in
        let inside : bucket < length row.buckets = omega (arith, all, less) in
        let more = flat_map bucket_entries (drop (bucket + 1) row.buckets) in
        let d = sum_by-drop_more (length {A = HashItem}) row.buckets bucket [] inside in
        let counted = b.counted in
        record {
          stands =
              subst (λ at. BlocksAre now.blocks ((at, hash_block row) ∷ (bucket_entries items ++ (more ++ rest))))
              (sym a)
              (subst (λ (es : Entries). BlocksAre now.blocks ((hash, hash_block row) ∷ es))
              (ap (λ (bs : List (List HashItem)). flat_map bucket_entries bs ++ rest) (drop_more row.buckets bucket [] inside)
              ∙ append_assoc (bucket_entries items) more rest) b.stands);
          opened =
              subst (λ field. IsOpened row.key_length field (hash_words row) items) (sym f)
              (opened row bucket fits (few_entries k few small) inside);
          few = omega (arith, d, counted);
        }

    pub some_opened : SomeHash old.blocks hash → SomeOpened now.blocks front left
    some_opened s = record {
      key_length = s.row.key_length;
      words = hash_words s.row;
      bucket = get_or s.row.buckets bucket [];
      rest = flat_map bucket_entries (drop (bucket + 1) s.row.buckets) ++ s.keeps.rest;
      is = opened_at s.row s.keeps.rest s.keeps.stands s.keeps.fits;
    }

    gone_at : {new : Heap} {left' : ℕ} → GivesBucket now new front left left' → (row : HashRow) (rest : Entries) →
        BlocksAre old.blocks (hash_entries hash row ++ rest) → HashFits row →
        Gone now new front.addr (hash_words row) (get_or row.buckets bucket [])
        (flat_map bucket_entries (drop (bucket + 1) row.buckets) ++ rest) left left'
    gone_at t row rest s fits =
        t.gives row.key_length (hash_words row) (get_or row.buckets bucket [])
        (flat_map bucket_entries (drop (bucket + 1) row.buckets) ++ rest)
        (opened_at row rest s fits)

    -- it is gone
    pub onward : {new : Heap} {left' : ℕ} → GivesBucket now new front left left' → GivesBuckets old new hash (bucket + 1) left'
    onward {new} {left'} t = record {
      gives = λ row rest s fits.
          let k : KeepsHash old.blocks hash row = record { rest = rest; stands = s; fits = fits } in
          let b = g.gives row rest s fits in
          let o = gone_at t row rest s fits in
          let items = get_or row.buckets bucket [] in
          let all = buckets_is k n in
          let inside : bucket < length row.buckets = omega (arith, all, less) in
          let more = flat_map bucket_entries (drop (bucket + 1) row.buckets) in
          let d = sum_by-drop_more (length {A = HashItem}) row.buckets bucket [] inside in
          let counted = b.counted in
          let fewer = o.counted in
          record {
            stands = subst (λ at. BlocksAre new.blocks ((at, hash_block row) ∷ (more ++ rest))) a o.stands;
            counted = omega (arith, d, counted, fewer);
            made =
                subst (λ (ms : List Move). Made ms old new)
                (sym (map-append (λ a. Gave a) (addrs_in (take bucket row.buckets)) (map item_addr items))
                ∙ ap gave (ap (λ (l : List ℕ). addrs_in (take bucket row.buckets) ++ l) (sym (append-nil (map item_addr items)))
                ∙ sym (flat_map-append (map item_addr) (take bucket row.buckets) (items ∷ []))
                ∙ ap addrs_in (sym (take_more row.buckets bucket [] inside))))
                (made_then (gave (addrs_in (take bucket row.buckets))) (gave (map item_addr items)) b.made o.made);
          };
    }

    pub left_less : {new : Heap} {left' : ℕ} → SomeHash old.blocks hash → GivesBucket now new front left left' → left' ≤ left
    left_less k t = let e = (gone_at t k.row k.keeps.rest k.keeps.stands k.keeps.fits).counted in omega (arith, e)

    -- a stop in the bucket
    pub stopped_within : (new : Heap) (stop : Stop) → IsKind (old.blocks hash) kinds.Hash →
        GiveStops front left now new stop → DestroyStops hash old new stop
    stopped_within new (Refused (LogFull lines room)) kind t = record {
      kind = kind;
      gave = λ row k.
          let b = g.gives row k.rest k.stands k.fits in
          let items = get_or row.buckets bucket [] in
          let all = buckets_is k n in
          let inside : bucket < length row.buckets = omega (arith, all, less) in
          let more = drop (bucket + 1) row.buckets in
          let before = addrs_in (take bucket row.buckets) in
          let whole : before ++ (map item_addr items ++ (addrs_in more ++ hash ∷ [])) ≡ addrs_in row.buckets ++ hash ∷ [] =
          ap (λ (l : List ℕ). before ++ l) (sym (append_assoc (map item_addr items) (addrs_in more) (hash ∷ [])))
          ∙ sym (append_assoc before (map item_addr items ++ addrs_in more) (hash ∷ []))
          ∙ ap (λ (l : List ℕ). l ++ hash ∷ [])
          (ap (λ (bs : List (List HashItem)). before ++ addrs_in bs) (sym (drop_more row.buckets bucket [] inside))
          ∙ sym (flat_map-append (map item_addr) (take bucket row.buckets) (drop bucket row.buckets))
          ∙ ap addrs_in (take-append-drop bucket row.buckets)) in
          subst (λ (l : List ℕ). GaveSome l old new) whole
          (some_then before (map item_addr items) (addrs_in more ++ hash ∷ []) b.made
          (t.gives row.key_length (hash_words row) items (flat_map bucket_entries more ++ k.rest)
          (opened_at row k.rest k.stands k.fits)));
    }
    stopped_within new (Refused refusal) kind t = absurd t
    stopped_within new DiskFault kind t = tt
    stopped_within new MediaFault kind t = absurd t
    stopped_within new Failed kind t = tt

  -- there is room for the entries that are left, and for the hash
  pub spare_left : {now : Heap} {bucket left : ℕ} → SomeHash old.blocks hash → GivesBuckets old now hash bucket left →
      count + 1 ≤ old.spare → left + 1 ≤ now.spare
  spare_left {now} {bucket} {left} k g enough =
      let row = k.row in
      let b = g.gives row k.keeps.rest k.keeps.stands k.keeps.fits in
      let e : now.spare ≡ old.spare - length (gave (addrs_in (take bucket row.buckets))) =
      ap (λ (h : Heap). h.spare) b.made.all in
      let l = length-addrs_in (take bucket row.buckets) in
      let t = sum_by-take-drop (length {A = HashItem}) row.buckets bucket in
      let all = entries_is k.keeps few small c in
      let counted = b.counted in omega (arith, e, l, t, all, counted, enough)

  -- the hash's own block stands, however many buckets are gone
  pub hash_left : {now : Heap} {bucket left : ℕ} → GivesBuckets old now hash bucket left → SomeHash old.blocks hash →
      Reaches (now.blocks hash) 0
  hash_left {now} {bucket} g k =
      let b = g.gives k.row k.keeps.rest k.keeps.stands k.keeps.fits in
      reaches (now.blocks hash) kinds.Hash (hash_words k.row) [] 0
      (found now.blocks hash (hash_block k.row) [] (flat_map bucket_entries (drop bucket k.row.buckets) ++ k.keeps.rest) b.stands)
      (omega arith)

  module _ {now : Heap} {bucket left : ℕ} (g : GivesBuckets old now hash bucket left) (done : bucket ≡ buckets) where
    -- all buckets are gone, and the hash's own block stands
    left_at : (row : HashRow) (rest : Entries) → BlocksAre old.blocks (hash_entries hash row ++ rest) → HashFits row →
        BlocksAre now.blocks ((hash, hash_block row) ∷ rest) × Made (gave (addrs_in row.buckets)) old now
    left_at row rest s fits =
        let k : KeepsHash old.blocks hash row = record { rest = rest; stands = s; fits = fits } in
        let b = g.gives row rest s fits in
        let all = buckets_is k n in
        let past : length row.buckets ≤ bucket = omega (arith, all, done) in
        let none = drop_of_length-le row.buckets {i = bucket} past in
        let whole : take bucket row.buckets ≡ row.buckets = take_all bucket row.buckets past in (
          subst (λ (bs : List (List HashItem)). BlocksAre now.blocks
              ((hash, hash_block row) ∷ (flat_map bucket_entries bs ++ rest))) none b.stands,
          subst (λ (bs : List (List HashItem)). Made (gave (addrs_in bs)) old now) whole b.made,
        )

    pub destroys : (new : Heap) → IsKind (old.blocks hash) kinds.Hash → new ≡ with_given now hash → DestroysHash hash old new
    destroys new kind is = record {
      kind = kind;
      changes = λ row k. record {
        kept = λ rest s.
            subst (λ (b : Blocks). BlocksAre b rest) (sym (given_blocks hash now new is))
            (went now.blocks hash (hash_block row) [] rest (left_at row rest s k.fits).0);
      };
      made = λ row k. one_gave (addrs_in row.buckets) hash (left_at row k.rest k.stands k.fits).1 is;
    }

    -- a stop at the hash's own block
    pub stopped_after : (new : Heap) (stop : Stop) → IsKind (old.blocks hash) kinds.Hash → OnlyUnmoved now new stop →
        DestroyStops hash old new stop
    stopped_after new (Refused (LogFull lines room)) kind u = record {
      kind = kind;
      gave = λ row k.
          some_then (addrs_in row.buckets) [] (hash ∷ []) (left_at row k.rest k.stands k.fits).1
          (record {
            made = [];
            first = record { rest = []; whole = refl };
            moves = u.moves ∙ sym (append-nil now.moves);
            spare = let e = u.spare in omega (arith, e);
          });
    }
    stopped_after new (Refused refusal) kind u = absurd u
    stopped_after new DiskFault kind u = tt
    stopped_after new MediaFault kind u = absurd u
    stopped_after new Failed kind u = tt
