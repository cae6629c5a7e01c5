-- The blocks of each layout fit the chains that they stand in.
use Rattle.std.proofs.Common.{◌≡◌, ◌<◌, ◌*◌, ◌/◌, ◌^◌, ℕ, Bool, List, [], ◌∷◌, cond, length, get_or, arith, ap, ◌∙◌, refl}
use Rattle.std.specs.Prelude.{Some}
use Rattle.std.proofs.lemmas.Bool.{and_from, eq-eqb, lt-ltb}
use Rattle.sdr_base.proofs.LayoutLemmas.{length-layout, number_at-layout}
use Rattle.sdr_base.specs.Catalogue.{name_block, name_bytes}
use Rattle.sdr_base.specs.Hashes.{item_block}
use Rattle.sdr_base.specs.Lists.{element_block}
use Rattle.sdr_base.specs.Stored.{number_at}
use Rattle.sdr_base.specs.Tickets.{ticket_block, ticket_words}
use Rattle.sdr_base.specs.Words.{layout}
use Rattle.sdr_base.specs.ZcoObjects.{account_number, capsule_block, extent_block}
use Rattle.sdr_base.specs.declared.account.Acct.{Acct}
use Rattle.sdr_base.specs.declared.account.Acct.TheVariants as accts
use Rattle.sdr_base.specs.declared.kind.Kind.{Kind}
use Rattle.sdr_base.specs.declared.kind.Kind.TheVariants as kinds
use Rattle.audit_owners.specs.Linking.{FitsChain}
use Rattle.audit_owners.specs.View.{word_of}
use Rattle.audit_owners.specs.declared.owner.Owner.TheVariants as owners

-- a word of a block of a layout is the one that was laid out
pub word_laid : (kind : Kind) (words rest : List ℕ) (field : ℕ) → field < length words → get_or words field 0 < 2 ^ 64 →
    word_of (Some (record { kind = kind; bytes = layout words rest })) field ≡ get_or words field 0
word_laid kind words rest field less small =
    let long = length-layout words rest in
    let inside : field < length (layout words rest) / 8 = omega (arith, long, less) in
    ap (λ (t : Bool). cond t (number_at (8 * field) (layout words rest)) 0) (lt-ltb field (length (layout words rest) / 8) inside)
    ∙ number_at-layout words rest field less small

pub names_fit : FitsChain owners.Catalogue name_block
names_fit = record {
  kind = λ before next row. refl;
  next = λ before next row small.
      word_laid kinds.Name (next ∷ row.type_number ∷ row.object ∷ []) (name_bytes row.name) 0 (omega arith) small;
  names = λ before next row low. refl;
}

account_small : (account : Acct) → account_number account < 2 ^ 64
account_small accts.Inbound = omega arith
account_small accts.Outbound = omega arith

pub tickets_fit : (account : Acct) → FitsChain (owners.Queue account) (ticket_block account)
tickets_fit account = record {
  kind = λ before next row. refl;
  next = λ before next row small. word_laid kinds.Ticket (ticket_words account next row) [] 11 (omega arith) small;
  names = λ before next row low.
      eq-eqb _ _ (word_laid kinds.Ticket (ticket_words account next row) [] 1 (omega arith) (account_small account));
}

pub elements_fit : (list : ℕ) → list < 2 ^ 64 → FitsChain (owners.List list) (element_block list)
elements_fit list fits = record {
  kind = λ before next row. refl;
  next = λ before next row small. word_laid kinds.Element (list ∷ before ∷ next ∷ row.datum ∷ []) [] 2 (omega arith) small;
  names = λ before next row low.
      and_from _ _ (eq-eqb _ _ (word_laid kinds.Element (list ∷ before ∷ next ∷ row.datum ∷ []) [] 0 (omega arith) fits))
      (eq-eqb _ _ (word_laid kinds.Element (list ∷ before ∷ next ∷ row.datum ∷ []) [] 1 (omega arith) low));
}

pub items_fit : (hash front : ℕ) → FitsChain (owners.Bucket hash front) item_block
items_fit hash front = record {
  kind = λ before next row. refl;
  next = λ before next row small. word_laid kinds.HashEntry (next ∷ row.value ∷ []) row.key 0 (omega arith) small;
  names = λ before next row low. refl;
}

pub headers_fit : (object : ℕ) → FitsChain (owners.Headers object) capsule_block
headers_fit object = record {
  kind = λ before next row. refl;
  next = λ before next row small. word_laid kinds.Capsule (next ∷ []) row.text 0 (omega arith) small;
  names = λ before next row low. refl;
}

pub extents_fit : (object : ℕ) → FitsChain (owners.Extents object) extent_block
extents_fit object = record {
  kind = λ before next row. refl;
  next = λ before next row small. word_laid kinds.Extent (row.source ∷ row.offset ∷ row.length ∷ next ∷ []) [] 3 (omega arith) small;
  names = λ before next row low. refl;
}

pub trailers_fit : (object : ℕ) → FitsChain (owners.Trailers object) capsule_block
trailers_fit object = record {
  kind = λ before next row. refl;
  next = λ before next row small. word_laid kinds.Capsule (next ∷ []) row.text 0 (omega arith) small;
  names = λ before next row low. refl;
}
