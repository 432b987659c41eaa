use Rattle.std.proofs.Common.{None}
use Rattle.nets.specs.Views.{of_link}
use Rattle.nets.proofs.Alone.{ranged}
use Rattle.rates.specs.Reaching.{OnwardBy}
use Rattle.rates.proofs.Tables.{open_here, ends_in, scan_link, scan_none, scan_all}
use Rattle.rates.proofs.Numbers.onward.Goals as goal
use Rattle.rates.proofs.Numbers.onward.Goals.{in-Some+in_default-lead_on, in_default}

pub lead_on-requires : goal.lead_on-requires
lead_on-requires c =
    let e = ends_in c.args.checked.now.net c.loop-slot.slot-index (ranged _ c.args.checked.now.ranged) c.in-Some.link c.in-Some.is in
    record { from = e.0; to = e.1 }

pub returns-in-Some-lead_on : goal.returns-in-Some-lead_on
returns-in-Some-lead_on c =
    (c.loop-slot.slot-index, of_link c.in-Some.link, open_here c.args.checked.now.net c.loop-slot.slot-index c.in-Some.link c.in-Some.is, c.in-Some-lead_on.ensures)

pub loop-slot-preserved : goal.loop-slot-preserved
loop-slot-preserved c =
    elim c.match-slot.branch [
      | in-Some+in_default-lead_on w ↦ scan_link c.args.checked.now.net (λ t. OnwardBy t c.args.self.now.z None) c.loop-slot.slot-index c.loop-slot.invariant w.in-Some.link w.in-Some.is w.in_default-lead_on.ensures
      | in_default w ↦ scan_none c.args.checked.now.net (λ t. OnwardBy t c.args.self.now.z None) c.loop-slot.slot-index c.loop-slot.invariant w.in_default.is
    ]

pub returns : goal.returns
returns c = scan_all c.args.checked.now.net (λ t. OnwardBy t c.args.self.now.z None) c.loop-slot.slot-index c.loop-slot.invariant (ranged _ c.args.checked.now.ranged).whole c.loop-slot-test.false
