use Rattle.swan_top.proofs.run.run_job.Goals as goal

pub run_plan-requires-after_bounds : goal.run_plan-requires-after_bounds
run_plan-requires-after_bounds g c = rw c.in-Ok.ensures.plan (λ κs outlives. c.in_ok-names.ensures.as_many c.args.inputs.items c.args.fuel)
