use Rattle.std.proofs.Common.{◌≡◌, ◌∙◌, length, get_or, ap, sym, arith, length-append}
use Rattle.std.proofs.lemmas.Result.{err_from_is_err_and}
use Rattle.swan_top.proofs.TextsRead.{AreRead-push, unread_next, unread_none, input_unread}
use Rattle.swan_top.specs.Headline.{WasRead}
use Rattle.swan_top.proofs.inputs.read_inputs.Goals as goal

pub returns-in_err-text-clause-refused : goal.returns-in_err-text-clause-refused
returns-in_err-text-clause-refused g c =
    let p = err_from_is_err_and c.from_residual.result c.from_residual.ensures.1 in
    let keeps = c.loop-name.invariant in
    let names = c.args.names.now in
    let inputs = c.loop-name.inputs.items in
    let at : get_or names (length inputs) c.name-item.result ≡ c.name-item.result =
    ap (λ i. get_or names i c.name-item.result) keeps.count ∙ sym c.name-item.is in
    rw (p.1, p.2) (input_unread (g.F.Files.content c.args.files.now) (g.F.Files.content c.loop-name.files) _ _ _ _ _ _ keeps.no_fault keeps.no_long_read keeps.contents names inputs c.name-item.result keeps.read (unread_next names inputs c.name-item.result (omega arith) at) _ c.in_err-text.ensures.refused)

pub loop-name-preserved : goal.loop-name-preserved
loop-name-preserved g c =
    let keeps = c.loop-name.invariant in
    let names = c.args.names.now in
    let inputs = c.loop-name.inputs.items in
    let at : get_or names (length inputs) c.name-item.result ≡ c.name-item.result =
    ap (λ i. get_or names i c.name-item.result) keeps.count ∙ sym c.name-item.is in
    let content = g.F.Files.content in
    let told : WasRead (content c.args.files.now c.name-item.result) c.new.result =
    rw (← keeps.contents c.name-item.result, c.new.ensures) c.in_ok-text.ensures.read in
    record {
      count = rw c.in_ok-push.ensures.items (simp length-append (omega arith));
      read = rw c.in_ok-push.ensures.items (AreRead-push (content c.args.files.now) names inputs c.new.result c.name-item.result keeps.read (omega arith) at told);
      contents = λ other. c.read_file.ensures.contents_kept other ∙ keeps.contents other;
      no_fault = c.in_ok-text.ensures.no_fault ∙ keeps.no_fault;
      no_long_read = c.in_ok-text.ensures.no_long_read ∙ keeps.no_long_read;
    }

pub returns-clause-all : goal.returns-clause-all
returns-clause-all g c = unread_none c.args.names.now c.loop-name.inputs.items (omega arith)
