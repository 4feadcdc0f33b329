-- The set with one more pair: another number of a word, or another word.
use Rattle.std.proofs.Common.{◌≡◌, ◌∙◌, ◌∷◌, [], Some, None, ap, sym}
use Rattle.std.specs.BTreeMap.{insert_entry}
use Rattle.std.specs.BTreeSet.{insert_key}
use Rattle.std.specs.Map.{lookup}
use Rattle.std.specs.Ordering.{nat_cmp}
use Rattle.index_pipeline.specs.KeptPairs.{kept_pairs}
use Rattle.index_pipeline.specs.Pairs.{pair_of, pair_order}
use Rattle.index_pipeline.proofs.KeptOrder.{at_word, one_number_more, one_word_more, paired, word_cmp}
use Rattle.index_pipeline.proofs.pairs.NumbersByWord.add.Goals as goal

pub returns-in-Some : goal.returns-in-Some
returns-in-Some c =
    let key = c.set.new.self in
    let line = c.told-line.result.line in
    let entries = c.args.self.now.words.entries in
    let more = c.add.new.self in
    let found : lookup (at_word key) entries ≡ Some c.in-Some.numbers.now = sym c.in-Some.ensures.value in
    ap kept_pairs (c.get_mut.follows.holds more).0
    ∙ one_number_more key line entries c.in-Some.numbers.now more c.in-Some.ensures.ordered found c.in_ok-add.ensures
    ∙ ap (λ w. insert_key pair_order (kept_pairs entries) (paired w line)) (c.in_ok-set.ensures ∙ c.told-line.ensures.word)
    ∙ ap (λ n. insert_key pair_order (kept_pairs entries) (paired (pair_of c.args.text.now).word n)) c.told-line.ensures.line

pub returns : goal.returns
returns c =
    let key = c.in_ok-again.field-0 in
    let line = c.told-line.result.line in
    let entries = c.args.self.now.words.entries in
    let numbers = c.add-2.new.self in
    let same : key ≡ c.set.new.self = c.in_ok-again.ensures in
    let none : lookup (at_word key) entries ≡ None = ap (λ w. lookup (at_word w) entries) same ∙ sym c.in_default.ensures.value in
    let one : numbers ≡ line ∷ [] = c.in_ok-add-2.ensures ∙ ap (λ ks. insert_key nat_cmp ks line) c.new-numbers.ensures in
    ap kept_pairs (c.in_ok-insert.ensures.entries ∙ ap (λ words. insert_entry word_cmp words.entries key numbers) c.get_mut.follows.holds-at-none)
    ∙ one_word_more key line entries numbers c.in_default.ensures.ordered none one
    ∙ ap (λ w. insert_key pair_order (kept_pairs entries) (paired w line)) (same ∙ c.in_ok-set.ensures ∙ c.told-line.ensures.word)
    ∙ ap (λ n. insert_key pair_order (kept_pairs entries) (paired (pair_of c.args.text.now).word n)) c.told-line.ensures.line
