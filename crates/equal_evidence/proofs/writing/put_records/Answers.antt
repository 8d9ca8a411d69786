use Rattle.equal_evidence.proofs.Putting.{put_first, put_here, put_last, put_more}
use Rattle.equal_evidence.proofs.writing.put_records.Goals as goal
use Rattle.rm_base.proofs.Public.{read_stands}
use Rattle.std.proofs.Common.{refl}

pub loop-given-init : goal.loop-given-init
loop-given-init c = put_first c.args.out.now.items c.args.out.now.items c.args.records.now refl c.requires

pub put_record-requires : goal.put_record-requires
put_record-requires c =
    put_here c.args.out.now.items c.loop-given.out.items c.args.records.now c.loop-given.given-index c.given-item.result
    (read_stands c.args.records.now c.loop-given.given-index c.given-item.result c.loop-given-test.true c.given-item.is) c.loop-given.invariant

pub loop-given-preserved : goal.loop-given-preserved
loop-given-preserved c =
    put_more c.args.out.now.items c.loop-given.out.items c.put_record.new.out.items c.args.records.now c.loop-given.given-index c.given-item.result
    (read_stands c.args.records.now c.loop-given.given-index c.given-item.result c.loop-given-test.true c.given-item.is) c.loop-given.invariant c.in_ok-put_record.ensures

pub returns : goal.returns
returns c = put_last c.args.out.now.items c.loop-given.out.items c.args.records.now c.loop-given.given-index c.loop-given-test.false c.loop-given.invariant
