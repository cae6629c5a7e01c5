use Rattle.std.proofs.Common.{◌≡◌, ◌∙◌, ◌++◌, Global, Vec, [], ◌∷◌, List, ℕ, rules, get_or, map, nat_eq, take, ap, sym}
use Rattle.std.specs.Cmp.Lexicographic.{pointwise}
use Rattle.std.specs.List.{list_any}
use Rattle.audit_owners.proofs.TextLemmas.{among_keys, keys_more, repeated_here, repeated_later, texts_more, was_in, was_new}
use Rattle.audit_owners.specs.Texts.{text_at}
use Rattle.audit_owners.specs.View.{view_in}
use Rattle.audit_owners.proofs.texts.first_repeated.Goals as goal

pub returns-then-not-branch : goal.returns-then-not-branch
returns-then-not-branch c =
    let heap = view_in c.args.heap.now in
    let i = c.loop-addr.addr-index in
    let addrs = c.args.addrs.now in
    let copied : c.in_ok-copy.copy.items ≡ c.text_at.result.now = search rules in
    let found =
    among_keys heap c.args.text (λ (key : Vec ℕ Global). key.items) c.loop-addr.seen.keys (take i addrs) (get_or addrs i 0) c.in_ok-copy.copy.items c.loop-addr.invariant.seen
    (copied ∙ c.text_at.ensures) in
    repeated_here heap c.args.text addrs i 0 c.loop-addr-test.true c.loop-addr.invariant.rest
    (sym found ∙ was_in (list_any (λ (key : Vec ℕ Global). pointwise nat_eq c.in_ok-copy.copy.items key.items) c.loop-addr.seen.keys) c.in_ok-insert.field-0 c.in_ok-insert.ensures.added c.if-not-branch.true)

pub loop-addr-preserved : goal.loop-addr-preserved
loop-addr-preserved c =
    let heap = view_in c.args.heap.now in
    let i = c.loop-addr.addr-index in
    let addrs = c.args.addrs.now in
    let copied : c.in_ok-copy.copy.items ≡ c.text_at.result.now = search rules in
    let own = copied ∙ c.text_at.ensures in
    let found =
    among_keys heap c.args.text (λ (key : Vec ℕ Global). key.items) c.loop-addr.seen.keys (take i addrs) (get_or addrs i 0) c.in_ok-copy.copy.items c.loop-addr.invariant.seen
    own in
    let new =
    was_new (list_any (λ (key : Vec ℕ Global). pointwise nat_eq c.in_ok-copy.copy.items key.items) c.loop-addr.seen.keys) c.in_ok-insert.field-0 c.in_ok-insert.ensures.added
    c.if-not-branch.false in
    record {
      seen =
          keys_more (λ (key : Vec ℕ Global). key.items) c.loop-addr.seen.keys c.insert.new.self.keys c.in_ok-copy.copy _ c.in_ok-insert.ensures.keys new
          ∙ ap (λ (l : List (List ℕ)). l ++ (c.in_ok-copy.copy.items ∷ [])) c.loop-addr.invariant.seen
          ∙ ap (λ (t : List ℕ). map (text_at heap c.args.text) (take i addrs) ++ (t ∷ [])) own
          ∙ sym (texts_more heap c.args.text addrs i 0 c.loop-addr-test.true);
      rest =
          repeated_later heap c.args.text addrs i 0 c.loop-addr-test.true c.loop-addr.invariant.rest (sym found ∙ new);
    }
