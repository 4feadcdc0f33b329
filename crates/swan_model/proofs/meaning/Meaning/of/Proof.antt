-- `of` makes a value of no bytes, which means what its argument means.
use Rattle.atomic_table.proofs.Names.{[], ◌∷◌, refl, a_type, dcons, dnil, named, Val, vptr, inst_fn, SProp, Fml, ‵, raw, ◌⊛◌, ◌$◌, ◌∵◌, !, qed, move, keep, split, join, fjoin, use0, no_more, and_then, returns, enter, alloc_all, pass_all, free_all, look_at, get, sets, agg, tables, yes, RattleType, owns, types_at, plain, nothing, param, bounded, Stays, stay_dropped, walk_of, Goes-dropped, RefOf, shr_vals, shr_Tells}
use mir.Val.{vstruct, vcons, vnil}
use denote.Shadow.{makes_shadow}
use denote.Signature.{type_at}
use denote.Triple.Entry.{alive, Res}
use denote.Triple.Walked.{says, ends_at}
use types.Kit.{suffices, done}
use Rattle.atomic_table.proofs.Walks.{proved}
use Rattle.swan_model.specs.contracts.meaning.Meaning.of.{ended, clauses}
use Rattle.swan_model.specs.contracts.meaning.Meaning.of.Key.{name as #self}
use Rattle.swan_model.proofs.meaning.Meaning.of.Statement.{statement}
use Rattle.swan_model.proofs.meaning.Meaning.of.Code as code

pub of_spec : {M : Type 1} → statement M
of_spec 𝓤 𝓛 𝓜 𝓡 wired X T _ _ g d _ =
    let H = 𝓛.H in let 𝓣 = tables 𝓤 H 𝓜 𝓡 𝓡.env in let R : RattleType = param 1 T in
    let En = ended X T g d in let c = clauses X T g d 𝓛 𝓜.mem 𝓡.returns in let inst = bounded (a_type ∷ a_type ∷ []) (X, (T, tt)) (dcons d dnil) in let fn = inst_fn inst code.function in
    let hs : Stays En.signature.params En.kept = (stay_dropped (RefOf (0 ∷ []) tt (plain (λ _. R)) (λ _. tt)) yes, tt) in
    proved 𝓛 En hs c 𝓜 𝓡 (Goes-dropped 𝓛 3 (RefOf (0 ∷ []) tt (plain (λ _. R)) (λ _. tt)) yes (λ κs x f. refl), tt) (#self inst) fn (code.unfolded 𝓤 H 𝓜 𝓡 wired (X, (T, tt)) d)
    (λ κs. (shr_vals, tt)) (λ κs. (shr_Tells (named 0) κs.0 R, tt)) (λ κs qs bounds a gh are.
    let v : Val = vstruct (vcons (vstruct vnil) vnil) in let r : Res En.signature κs = record { marker = record {}; means = g.means a.0.now } in
    let y : (walk_of 𝓛 En hs c).Ghost = ((κs, qs, bounds, a, (vptr a.0.ref_ptr.0 a.0.ref_ptr.1 ∷ [], tt)), gh) in let Post : Val → SProp 𝓤 = (walk_of 𝓛 En hs c).post y in
    let O : Fml = (type_at En.signature.result κs).own_val r (v ∷ []) in
    qed 𝓛 ((raw (alive 𝓛 En.signature κs qs) ⊛ ‵ (owns (types_at En.signature.params κs) a y.0.4)) ∷ raw ((c κs a).requires gh) ∷ []) ∵ split ! $ keep ! (0 ∷ []) $
    enter ! 𝓣.C 𝓣.Λ fn (vptr a.0.ref_ptr.0 a.0.ref_ptr.1 ∷ []) Post $ alloc_all ! (λ l. pass_all ! refl ((tt, tt), tt) $
    sets ! (agg ! (no_more !)) refl (tt, tt) $ sets ! (agg ! (and_then ! (get ! refl) (no_more !))) refl (tt, (tt, tt)) $
    returns ! (look_at ! 0 refl) $ free_all ! refl $
    use0 𝓛 (‵ O) (makes_shadow 𝓛 O ((λ vss. (tt, ((λ uss. (tt, tt)), tt))), tt) (((vstruct vnil ∷ [], tt), (refl, ((tt, (refl, tt)), tt))), tt)) $
    suffices ! _ (ends_at 𝓛 En hs c y v r (tt, tt) (tt, tt)) $ says ! refl $
    nothing ! $ nothing ! $ fjoin ! $ join ! $ move ! (1 ∷ 0 ∷ []) $ join ! $ done !))
