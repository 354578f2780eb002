use Rattle.std.proofs.Common.{◌≡◌, ◌<◌, arith, drop, rules}
use Rattle.wx_plain.proofs.FrameLines.{frame_bytes, written_none, written_frame, written_end}
use Rattle.wx_plain.proofs.frames.put_frames.Goals as goal

pub loop-at-init : goal.loop-at-init
loop-at-init c = record { limit = c.new-reader.ensures.limit; ready = c.new-reader.ensures.bytes; written = written_none c.one_split.ensures.start _ _ }

pub loop-at-smaller : goal.loop-at-smaller
loop-at-smaller c =
    let first = rw c.in-Ok-Frame.field-0-is at c.in-Ok-Frame.ensures.first in
    let some : 0 < c.in-Ok-Frame.used = frame_bytes c.in-Ok-Frame.used _ first.0 first.1 in
    omega arith

pub loop-at-preserved : goal.loop-at-preserved
loop-at-preserved c =
    let first = rw c.in-Ok-Frame.field-0-is at c.in-Ok-Frame.ensures.first in
    let ready = rw c.in-Ok-Frame.field-0-is at c.in-Ok-Frame.ensures.ready in
    let rest_is : c.split_at.result.1.now ≡ drop c.loop-at.at c.args.bytes.now = search rules in
    record {
      limit = c.read_first.ensures.limit;
      ready = ready;
      written = written_frame c.one_split.ensures.frame _ _ _ _ _ first.0 _ _ _ rest_is c.loop-at.invariant.written first.1 first.2 first.3;
    }

pub returns-in-Ok-End : goal.returns-in-Ok-End
returns-in-Ok-End c =
    let first = rw c.in-Ok-End.field-0-is at c.in-Ok-End.ensures.first in
    let rest_is : c.split_at.result.1.now ≡ drop c.loop-at.at c.args.bytes.now = search rules in
    written_end c.one_split.ensures.whole c.one_split.ensures.fault _ _ _ _ _ _ _ _ rest_is c.loop-at.invariant.written first.0 first.1
