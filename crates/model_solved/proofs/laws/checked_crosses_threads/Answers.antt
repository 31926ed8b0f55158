use denote.Param.Send.{IsSend, IsSync, sendable}
use Rattle.std.proofs.Crossing.{crosses}
use Rattle.model_value.proofs.value.Value.TheLaws.TheKnot.{send-Value, sync-Value}
use Rattle.saved_value.specs.contracts.saved.Saved as saved
use Rattle.model_tree.proofs.tree.Expr.TheLaws.TheKnot.{send-Expr, sync-Expr}
use Rattle.model_tree.proofs.tree.Stmt.TheLaws.TheKnot.{send-Stmt, sync-Stmt}
use Rattle.model_tree.specs.contracts.program.Program as program
use Rattle.model_solved.proofs.solved.SolvedExpr.TheLaws.TheKnot.{send-SolvedExpr, sync-SolvedExpr}
use Rattle.model_solved.proofs.solved.SolvedStmt.TheLaws.TheKnot.{send-SolvedStmt, sync-SolvedStmt}
use Rattle.model_solved.specs.contracts.solved.Solved as solved
use Rattle.model_solved.specs.contracts.checked.Checked as checked
use Rattle.model_solved.proofs.laws.checked_crosses_threads.Goals as goal

saved-send : IsSend saved.the_row
saved-send = search (sendable, crosses, send-Value) depth 60 fits 20000

saved-sync : IsSync saved.the_row
saved-sync = search (sendable, crosses, sync-Value) depth 60 fits 20000

program-send : IsSend program.the_row
program-send = search (sendable, crosses, send-Expr, send-Stmt) depth 60 fits 20000

program-sync : IsSync program.the_row
program-sync = search (sendable, crosses, sync-Expr, sync-Stmt) depth 60 fits 20000

solved-send : IsSend solved.the_row
solved-send = search (sendable, crosses, send-SolvedExpr, send-SolvedStmt) depth 60 fits 20000

solved-sync : IsSync solved.the_row
solved-sync = search (sendable, crosses, sync-SolvedExpr, sync-SolvedStmt) depth 60 fits 20000

checked-send : IsSend program.the_row → IsSend solved.the_row → IsSend saved.the_row → IsSend checked.the_row
checked-send program solved saved = search (sendable, crosses) depth 60 fits 20000

checked-sync : IsSync program.the_row → IsSync solved.the_row → IsSync saved.the_row → IsSync checked.the_row
checked-sync program solved saved = search (sendable, crosses) depth 60 fits 20000

pub returns-clause-send : goal.returns-clause-send
returns-clause-send c = checked-send program-send solved-send saved-send

pub returns-clause-sync : goal.returns-clause-sync
returns-clause-sync c = checked-sync program-sync solved-sync saved-sync
