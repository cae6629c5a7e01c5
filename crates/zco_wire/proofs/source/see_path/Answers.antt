-- The path stands behind the words of the block.
use Rattle.std.proofs.Common.{◌≡◌, ◌∙◌, length, take, drop, sym, arith, length-append}
use Rattle.std.proofs.lemmas.List.{length-take, take_at}
use Rattle.zco_wire.proofs.SeeingLemmas.{path_bytes, path_reaches}
use Rattle.zco_wire.proofs.source.see_path.Goals as goal

pub slice_bounds-get-end : goal.slice_bounds-get-end
slice_bounds-get-end g c =
    let s = c.requires.source in let t = c.in_ok-bytes.ensures.told.tells s.source s.keeps in let h = s.short in let l = c.requires.long in
    omega (arith, t, h, l)

pub get-requires-clause-inside : goal.get-requires-clause-inside
get-requires-clause-inside g c =
    let s = c.requires.source in
    let t = c.in_ok-bytes.ensures.told.tells s.source s.keeps in
    let n = length-take c.in_ok-bytes.bytes c.args.into.now in
    rw c.path_length.ensures.looks.same (path_reaches _ s.keeps (omega (arith, t, n)))

pub returns-clause-seen : goal.returns-clause-seen
returns-clause-seen g c =
    let s = c.requires.source in
    let t = c.in_ok-bytes.ensures.told.tells s.source s.keeps in
    let h = s.short in let l = c.requires.long in
    let n = length-take c.in_ok-bytes.bytes c.args.into.now in
    let got = c.get.auto.into in
    let rest = drop c.in_ok-bytes.bytes c.args.into.now in
    let a = length-append c.get.new.into rest in
    let long : length c.get.new.into ≡ c.in_ok-bytes.bytes = omega (arith, t, h, l, n, got) in
    let b = rw c.path_length.ensures.looks.same at c.in_ok-get.ensures.given in
    record {
      few = omega (arith, long, a);
      sees = λ source k.
          take_at c.get.new.into rest c.in_ok-bytes.bytes long
          ∙ path_bytes (length (take c.in_ok-bytes.bytes c.args.into.now)) c.get.new.into k
          (sym got ∙ long ∙ c.in_ok-bytes.ensures.told.tells source k) b;
    }
