use Rattle.std.proofs.Common.{◌≡◌, ◌∙◌, ap, false, not, subst, sym, true}
use Rattle.sdr_heap.specs.Noted.{Held}
use Rattle.sdr_image.specs.Opened.{Opened}
use Rattle.sdr_model.specs.declared.answer.Reply.TheVariants as replies
use Rattle.sdr_station.proofs.CameLemmas.{CameTo, FaultsTo, came_answered, came_failed, came_missed, came_refused, failed_never, keeps_before, lines_left, stands_before}
use Rattle.sdr_station.proofs.InsideLemmas.{inside_quiet}
use Rattle.sdr_station.specs.Closing.{moves_left}
use Rattle.sdr_station.specs.Grounded.{Grounded, IsGround}
use Rattle.sdr_station.proofs.ground.HeapGround.serve.Goals as goal

pub answer-requires-clause-kept : goal.answer-requires-clause-kept
answer-requires-clause-kept g c =
    keeps_before g.D.Disk _ c.self.invariant (ap (λ (o : Grounded g.row.D.Denot g.row.M.Denot). o.stopped) c.self.view_is ∙ c.requires.going) c.clear_moves.new.self c.clear_moves.ensures.none

pub answer-requires-clause-stands : goal.answer-requires-clause-stands
answer-requires-clause-stands g c =
    stands_before g.D.Disk _ c.self.invariant (ap (λ (o : Grounded g.row.D.Denot g.row.M.Denot). o.stopped) c.self.view_is ∙ c.requires.going) c.clear_moves.new.self c.clear_moves.ensures.none

pub unreachable-requires : goal.unreachable-requires
unreachable-requires g c =
    failed_never g.D.Disk _ c.self.invariant (ap (λ (o : Grounded g.row.D.Denot g.row.M.Denot). o.stopped) c.self.view_is ∙ c.requires.going) c.clear_moves.new.self c.clear_moves.ensures.none
    c.args.call.now c.answer.new.o c.in-Err-Failed.field-0 c.in-Err-Failed.ensures.works c.in-Err-Failed.field-0-is

pub returns-in-Ok : goal.returns-in-Ok
returns-in-Ok g c =
    let D = g.row.D.Denot in
    let M = g.row.M.Denot in
    let d = g.D.Disk in
    let n = g.M.Media in
    let going = ap (λ (o : Grounded D M). o.stopped) c.self.view_is ∙ c.requires.going in
    let e = c.in-Ok in
    let at = c.moment_of-self-inside in
    let seen = at.ensures.moment ∙ ap (λ (h : Held (Opened D)). d.moment h.cells.disk) at.ensures.same in
    let with_heap : Held (Opened D) → Grounded D M = λ heap. record {
      heap = heap;
      media = c.answer.new.media;
      shown = c.answer.new.page;
      stopped = c.self.inside.stopped;
      idle = false;
      moment = at.result;
      restored = c.self.inside.restored;
    } in
    let came = came_answered d n _ c.self.invariant going c.args.call.now e.ensures.fits c.clear_moves.new.self c.clear_moves.ensures.none c.answer.new.o
    c.answer.new.media e.ensures.media c.answer.new.page at.result seen e.reply e.ensures.comes e.ensures.works e.ensures.tells e.ensures.unread e.ensures.asks in
    let here : CameTo d n c.args.call.now e.reply c.args.self.now (with_heap at.new.heap) =
    subst (λ (h : Held (Opened D)). CameTo d n c.args.call.now e.reply c.args.self.now (with_heap h)) (sym at.ensures.same)
    (subst (λ (o : Grounded D M). CameTo d n c.args.call.now e.reply o (with_heap c.answer.new.o)) c.self.view_is came) in
    record {
      memory = here.memory;
      answered = here.answered;
      stopped = here.stopped;
      gives = here.gives;
      other = here.other;
      sound = here.sound;
      gap = here.gap;
      unread = here.unread;
      fault = tt;
      unasked = tt;
      restored = ap (λ (o : Grounded D M). o.restored) c.self.view_is;
      quiet = here.quiet;
      lines = λ reads. ap (λ (h : Held (Opened D)). h.cells.touched) at.ensures.same
          ∙ lines_left _ c.args.self.now c.self.view_is c.clear_moves.new.self c.answer.new.o c.clear_moves.ensures.none c.args.call.now e.ensures.lines reads;
      asks = here.asks;
      time = here.time;
      keeps = here.keeps;
      inside = inside_quiet d.bytes d.tells_crashes d.moment d.may_hold_after c.args.self.now (with_heap at.new.heap) here.quiet;
      any_moment = here.any_moment;
    }

pub invariant_of-self : goal.invariant_of-self
invariant_of-self g c =
    let D = g.row.D.Denot in
    let M = g.row.M.Denot in
    let d = g.D.Disk in
    let n = g.M.Media in
    let going = ap (λ (o : Grounded D M). o.stopped) c.self.view_is ∙ c.requires.going in
    let e = c.in-Ok in
    let at = c.moment_of-self-inside in
    let seen = at.ensures.moment ∙ ap (λ (h : Held (Opened D)). d.moment h.cells.disk) at.ensures.same in
    let with_heap : Held (Opened D) → Grounded D M = λ heap. record {
      heap = heap;
      media = c.answer.new.media;
      shown = c.answer.new.page;
      stopped = c.self.inside.stopped;
      idle = false;
      moment = at.result;
      restored = c.self.inside.restored;
    } in
    let came = came_answered d n _ c.self.invariant going c.args.call.now e.ensures.fits c.clear_moves.new.self c.clear_moves.ensures.none c.answer.new.o
    c.answer.new.media e.ensures.media c.answer.new.page at.result seen e.reply e.ensures.comes e.ensures.works e.ensures.tells e.ensures.unread e.ensures.asks in
    subst (λ (h : Held (Opened D)). IsGround d.moment (with_heap h)) (sym at.ensures.same) came.is_ground

pub returns-in-Err-MediaFault : goal.returns-in-Err-MediaFault
returns-in-Err-MediaFault g c =
    let D = g.row.D.Denot in
    let M = g.row.M.Denot in
    let d = g.D.Disk in
    let n = g.M.Media in
    let going = ap (λ (o : Grounded D M). o.stopped) c.self.view_is ∙ c.requires.going in
    let e = c.in-Err-MediaFault in
    let at = c.moment_of-self-inside-in-Err-MediaFault in
    let seen = at.ensures.moment ∙ ap (λ (h : Held (Opened D)). d.moment h.cells.disk) at.ensures.same in
    let with_heap : Held (Opened D) → Grounded D M = λ heap. record {
      heap = heap;
      media = c.answer.new.media;
      shown = c.answer.new.page;
      stopped = c.self.inside.stopped;
      idle = false;
      moment = at.result;
      restored = c.self.inside.restored;
    } in
    let came = came_missed d n _ c.self.invariant going c.args.call.now e.ensures.fits c.clear_moves.new.self c.clear_moves.ensures.none c.answer.new.o
    c.answer.new.media e.ensures.media c.answer.new.page at.result seen e.field-0 e.field-0-is e.ensures.works e.ensures.tells e.ensures.unread e.ensures.asks in
    let here : CameTo d n c.args.call.now replies.MediaFault c.args.self.now (with_heap at.new.heap) =
    subst (λ (h : Held (Opened D)). CameTo d n c.args.call.now replies.MediaFault c.args.self.now (with_heap h)) (sym at.ensures.same)
    (subst (λ (o : Grounded D M). CameTo d n c.args.call.now replies.MediaFault o (with_heap c.answer.new.o)) c.self.view_is came) in
    record {
      memory = here.memory;
      answered = here.answered;
      stopped = here.stopped;
      gives = here.gives;
      other = here.other;
      sound = here.sound;
      gap = here.gap;
      unread = here.unread;
      fault = tt;
      unasked = tt;
      restored = ap (λ (o : Grounded D M). o.restored) c.self.view_is;
      quiet = here.quiet;
      lines = λ reads. ap (λ (h : Held (Opened D)). h.cells.touched) at.ensures.same
          ∙ lines_left _ c.args.self.now c.self.view_is c.clear_moves.new.self c.answer.new.o c.clear_moves.ensures.none c.args.call.now e.ensures.lines reads;
      asks = here.asks;
      time = here.time;
      keeps = here.keeps;
      inside = inside_quiet d.bytes d.tells_crashes d.moment d.may_hold_after c.args.self.now (with_heap at.new.heap) here.quiet;
      any_moment = here.any_moment;
    }

pub invariant_of-self-in-Err-MediaFault : goal.invariant_of-self-in-Err-MediaFault
invariant_of-self-in-Err-MediaFault g c =
    let D = g.row.D.Denot in
    let M = g.row.M.Denot in
    let d = g.D.Disk in
    let n = g.M.Media in
    let going = ap (λ (o : Grounded D M). o.stopped) c.self.view_is ∙ c.requires.going in
    let e = c.in-Err-MediaFault in
    let at = c.moment_of-self-inside-in-Err-MediaFault in
    let seen = at.ensures.moment ∙ ap (λ (h : Held (Opened D)). d.moment h.cells.disk) at.ensures.same in
    let with_heap : Held (Opened D) → Grounded D M = λ heap. record {
      heap = heap;
      media = c.answer.new.media;
      shown = c.answer.new.page;
      stopped = c.self.inside.stopped;
      idle = false;
      moment = at.result;
      restored = c.self.inside.restored;
    } in
    let came = came_missed d n _ c.self.invariant going c.args.call.now e.ensures.fits c.clear_moves.new.self c.clear_moves.ensures.none c.answer.new.o
    c.answer.new.media e.ensures.media c.answer.new.page at.result seen e.field-0 e.field-0-is e.ensures.works e.ensures.tells e.ensures.unread e.ensures.asks in
    subst (λ (h : Held (Opened D)). IsGround d.moment (with_heap h)) (sym at.ensures.same) came.is_ground

pub returns-in-Err-Refused : goal.returns-in-Err-Refused
returns-in-Err-Refused g c =
    let D = g.row.D.Denot in
    let M = g.row.M.Denot in
    let d = g.D.Disk in
    let n = g.M.Media in
    let going = ap (λ (o : Grounded D M). o.stopped) c.self.view_is ∙ c.requires.going in
    let e = c.in-Err-Refused in
    let at = c.moment_of-self-inside-in-Err-Refused in
    let with_heap : Held (Opened D) → Grounded D M = λ heap. record {
      heap = heap;
      media = c.answer.new.media;
      shown = c.answer.new.page;
      stopped = not c.is_reading.result;
      idle = false;
      moment = at.result;
      restored = c.self.inside.restored;
    } in
    let left : at.new.heap ≡ record c.answer.new.o { moves = moves_left e.refusal c.answer.new.o.moves; spare = at.new.heap.spare } =
    subst (λ (h : Held (Opened D)). h ≡ record c.answer.new.o { moves = moves_left e.refusal c.answer.new.o.moves; spare = h.spare })
    (sym at.ensures.same) c.forget_moves.ensures in
    let seen = at.ensures.moment ∙ ap (λ (h : Held (Opened D)). d.moment h.cells.disk) left in
    let came = came_refused d n _ c.self.invariant going c.args.call.now e.ensures.fits c.clear_moves.new.self c.clear_moves.ensures.none c.answer.new.o
    c.answer.new.media e.ensures.media c.answer.new.page at.result seen e.refusal e.field-0 e.field-0-is at.new.heap left c.is_reading.result c.is_reading.ensures
    e.ensures.comes e.ensures.works e.ensures.tells e.ensures.unread e.ensures.asks in
    let here : CameTo d n c.args.call.now (replies.Refused e.refusal) c.args.self.now (with_heap at.new.heap) =
    subst (λ (o : Grounded D M). CameTo d n c.args.call.now (replies.Refused e.refusal) o (with_heap at.new.heap)) c.self.view_is came in
    record {
      memory = here.memory;
      answered = here.answered;
      stopped = here.stopped;
      gives = here.gives;
      other = here.other;
      sound = here.sound;
      gap = here.gap;
      unread = here.unread;
      fault = tt;
      unasked = tt;
      restored = ap (λ (o : Grounded D M). o.restored) c.self.view_is;
      quiet = here.quiet;
      lines = λ reads. ap (λ (h : Held (Opened D)). h.cells.touched) left
          ∙ lines_left _ c.args.self.now c.self.view_is c.clear_moves.new.self c.answer.new.o c.clear_moves.ensures.none c.args.call.now e.ensures.lines reads;
      asks = here.asks;
      time = here.time;
      keeps = here.keeps;
      inside = inside_quiet d.bytes d.tells_crashes d.moment d.may_hold_after c.args.self.now (with_heap at.new.heap) here.quiet;
      any_moment = here.any_moment;
    }

pub invariant_of-self-in-Err-Refused : goal.invariant_of-self-in-Err-Refused
invariant_of-self-in-Err-Refused g c =
    let D = g.row.D.Denot in
    let M = g.row.M.Denot in
    let d = g.D.Disk in
    let n = g.M.Media in
    let going = ap (λ (o : Grounded D M). o.stopped) c.self.view_is ∙ c.requires.going in
    let e = c.in-Err-Refused in
    let at = c.moment_of-self-inside-in-Err-Refused in
    let left : at.new.heap ≡ record c.answer.new.o { moves = moves_left e.refusal c.answer.new.o.moves; spare = at.new.heap.spare } =
    subst (λ (h : Held (Opened D)). h ≡ record c.answer.new.o { moves = moves_left e.refusal c.answer.new.o.moves; spare = h.spare })
    (sym at.ensures.same) c.forget_moves.ensures in
    let seen = at.ensures.moment ∙ ap (λ (h : Held (Opened D)). d.moment h.cells.disk) left in
    let came = came_refused d n _ c.self.invariant going c.args.call.now e.ensures.fits c.clear_moves.new.self c.clear_moves.ensures.none c.answer.new.o
    c.answer.new.media e.ensures.media c.answer.new.page at.result seen e.refusal e.field-0 e.field-0-is at.new.heap left c.is_reading.result c.is_reading.ensures
    e.ensures.comes e.ensures.works e.ensures.tells e.ensures.unread e.ensures.asks in
    came.is_ground

pub returns-in-Err-DiskFault : goal.returns-in-Err-DiskFault
returns-in-Err-DiskFault g c =
    let D = g.row.D.Denot in
    let M = g.row.M.Denot in
    let d = g.D.Disk in
    let n = g.M.Media in
    let going = ap (λ (o : Grounded D M). o.stopped) c.self.view_is ∙ c.requires.going in
    let e = c.in-Err-DiskFault in
    let at = c.moment_of-self-inside-in-Err-DiskFault in
    let seen = at.ensures.moment ∙ ap (λ (h : Held (Opened D)). d.moment h.cells.disk) at.ensures.same in
    let with_heap : Held (Opened D) → Grounded D M = λ heap. record {
      heap = heap;
      media = c.answer.new.media;
      shown = c.answer.new.page;
      stopped = true;
      idle = false;
      moment = at.result;
      restored = c.self.inside.restored;
    } in
    let came = came_failed d n _ c.self.invariant going c.args.call.now e.ensures.fits c.clear_moves.new.self c.clear_moves.ensures.none c.answer.new.o
    c.answer.new.media e.ensures.media c.answer.new.page at.result seen e.field-0 e.field-0-is e.ensures.works e.ensures.unread e.ensures.asks in
    let here : FaultsTo d n c.args.call.now c.args.self.now (with_heap at.new.heap) =
    subst (λ (h : Held (Opened D)). FaultsTo d n c.args.call.now c.args.self.now (with_heap h)) (sym at.ensures.same)
    (subst (λ (o : Grounded D M). FaultsTo d n c.args.call.now o (with_heap c.answer.new.o)) c.self.view_is came) in
    record {
      memory = tt;
      answered = tt;
      stopped = tt;
      gives = tt;
      other = tt;
      sound = tt;
      gap = tt;
      unread = tt;
      fault = here.fault;
      unasked = here.unasked;
      restored = ap (λ (o : Grounded D M). o.restored) c.self.view_is;
      quiet = here.quiet;
      lines = λ reads. ap (λ (h : Held (Opened D)). h.cells.touched) at.ensures.same
          ∙ lines_left _ c.args.self.now c.self.view_is c.clear_moves.new.self c.answer.new.o c.clear_moves.ensures.none c.args.call.now e.ensures.lines reads;
      asks = here.asks;
      time = here.time;
      keeps = here.keeps;
      inside = inside_quiet d.bytes d.tells_crashes d.moment d.may_hold_after c.args.self.now (with_heap at.new.heap) here.quiet;
      any_moment = here.any_moment;
    }

pub invariant_of-self-in-Err-DiskFault : goal.invariant_of-self-in-Err-DiskFault
invariant_of-self-in-Err-DiskFault g c =
    let D = g.row.D.Denot in
    let M = g.row.M.Denot in
    let d = g.D.Disk in
    let n = g.M.Media in
    let going = ap (λ (o : Grounded D M). o.stopped) c.self.view_is ∙ c.requires.going in
    let e = c.in-Err-DiskFault in
    let at = c.moment_of-self-inside-in-Err-DiskFault in
    let seen = at.ensures.moment ∙ ap (λ (h : Held (Opened D)). d.moment h.cells.disk) at.ensures.same in
    let with_heap : Held (Opened D) → Grounded D M = λ heap. record {
      heap = heap;
      media = c.answer.new.media;
      shown = c.answer.new.page;
      stopped = true;
      idle = false;
      moment = at.result;
      restored = c.self.inside.restored;
    } in
    let came = came_failed d n _ c.self.invariant going c.args.call.now e.ensures.fits c.clear_moves.new.self c.clear_moves.ensures.none c.answer.new.o
    c.answer.new.media e.ensures.media c.answer.new.page at.result seen e.field-0 e.field-0-is e.ensures.works e.ensures.unread e.ensures.asks in
    subst (λ (h : Held (Opened D)). IsGround d.moment (with_heap h)) (sym at.ensures.same) came.is_ground
