use Rattle.std.proofs.Common.{reverse, rules, arith}
use borrow.Author.Tests.{tests}
use Rattle.std.proofs.lemmas.Iterator.Adapters.{YieldsList-from_rev_slice}
use Rattle.std.proofs.lemmas.Iterator.Search.{position_from_yields_List}
use Rattle.nesting.specs.Levels.{is_loop}
use Rattle.nesting.proofs.Levels.{level-position}
use Rattle.nesting.proofs.open.Stack+Frame+T.loop_level.Goals as goal

pub returns-in_err-around : goal.returns-in_err-around
returns-in_err-around g c =
    let r = position_from_yields_List (λ f. is_loop f.part) _ _ c.position.result c.position.ensures.ran (YieldsList-from_rev_slice c.as_slice.result.now (grind arith)) (λ x b q k. search (rules, tests)) in
    grind (arith, level-position (reverse c.as_slice.result.now))

pub returns : goal.returns
returns g c =
    let r = position_from_yields_List (λ f. is_loop f.part) _ _ c.position.result c.position.ensures.ran (YieldsList-from_rev_slice c.as_slice.result.now (grind arith)) (λ x b q k. search (rules, tests)) in
    grind (arith, level-position (reverse c.as_slice.result.now))
