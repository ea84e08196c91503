use Rattle.std.proofs.Common.{◌≡◌, ◌<◌, sym, refl, ap, ◌∙◌, subst}
use Rattle.schedule.specs.Machine.{lone}
use Rattle.schedule.proofs.LoneRuns.{after_ended, lone_step}
use Rattle.engine.specs.Runs.{setting, machine, start_of, lone_run, EndsRun, Sound}
use Rattle.engine.proofs.Ends.{accepted_fit, start_sound, settings_end, lone_counted}
use Rattle.engine.proofs.settings.Settings.run_alone.Goals as goal

pub loop-pixel-preserved : goal.loop-pixel-preserved
loop-pixel-preserved g c =
    let s = setting g.K.NumberKind.meaning c.args.self.now in
    let law = settings_end g.K.NumberKind.meaning c.args.self.now in
    let p = c.loop-pixel.pixel in
    let sound = c.loop-pixel.invariant.0 in
    let unended = c.loop-pixel-test.ensures in (
      subst (Sound s) (sym c.step.ensures) (law.kept p sound unended),
      ap (lone (machine s)) c.step.ensures ∙ lone_step (machine s) law p sound unended ∙ c.loop-pixel.invariant.1,
    )

pub loop-pixel-smaller : goal.loop-pixel-smaller
loop-pixel-smaller g c =
    let s = setting g.K.NumberKind.meaning c.args.self.now in
    let law = settings_end g.K.NumberKind.meaning c.args.self.now in
    let p = c.loop-pixel.pixel in
    subst (λ q. (machine s).left q < (machine s).left p) (sym c.step.ensures) (law.falls p c.loop-pixel.invariant.0 c.loop-pixel-test.ensures)

pub returns : goal.returns
returns g c =
    let s = setting g.K.NumberKind.meaning c.args.self.now in
    let p = c.loop-pixel.pixel in
    let inputs = c.args.inputs.now in
    let e : p ≡ lone_run s inputs = sym (after_ended (machine s) ((machine s).left p) p c.loop-pixel-test.ensures) ∙ c.loop-pixel.invariant.1 in
    let sound = start_sound g.K.NumberKind.meaning c.args.self.now inputs in
    record { end = e; reached = subst (EndsRun s inputs) (sym e) (lone_counted s (accepted_fit c.args.self.now.transform) (start_of s inputs) sound refl) }
