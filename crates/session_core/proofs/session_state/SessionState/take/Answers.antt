use Rattle.std.proofs.Common.{Ok, IfOk, rules, subst, sym}
use Rattle.lsp_messages.specs.declared.incoming.LspIn.{LspIn}
use Rattle.session_core.specs.Message.{asked}
use Rattle.session_core.specs.Step.{Acts}
use Rattle.session_core.proofs.OverLaws.{over_none}
use Rattle.session_core.proofs.ShortLaws.{short_asked}
use Rattle.session_core.proofs.session_state.SessionState.take.Goals as goal

pub returns-in-Initialize : goal.returns-in-Initialize
returns-in-Initialize g c =
    let s = c.args.self.now in
    let acts : IfOk c.initialize.result (λ bodies. Acts (asked s (Ok c.args.message)) c.initialize.new.self bodies) =
    subst (λ (m : LspIn). IfOk c.initialize.result (λ bodies. Acts (asked s (Ok m)) c.initialize.new.self bodies)) (sym c.in-Initialize.is) c.initialize.ensures in
    over_none (asked s (Ok c.args.message)) c.initialize.new.self c.initialize.result _ _ (short_asked s (Ok c.args.message)) acts

pub returns-in-DidOpen : goal.returns-in-DidOpen
returns-in-DidOpen g c =
    let s = c.args.self.now in
    let acts : IfOk c.opened.result (λ bodies. Acts (asked s (Ok c.args.message)) c.opened.new.self bodies) = search rules in
    over_none (asked s (Ok c.args.message)) c.opened.new.self c.opened.result _ _ (short_asked s (Ok c.args.message)) acts

pub returns-in-DidChange : goal.returns-in-DidChange
returns-in-DidChange g c =
    let s = c.args.self.now in
    let acts : IfOk c.changed.result (λ bodies. Acts (asked s (Ok c.args.message)) c.changed.new.self bodies) = search rules in
    over_none (asked s (Ok c.args.message)) c.changed.new.self c.changed.result _ _ (short_asked s (Ok c.args.message)) acts

pub returns-in-DidClose : goal.returns-in-DidClose
returns-in-DidClose g c =
    let s = c.args.self.now in
    let acts : IfOk c.closed.result (λ bodies. Acts (asked s (Ok c.args.message)) c.closed.new.self bodies) =
    subst (λ (m : LspIn). IfOk c.closed.result (λ bodies. Acts (asked s (Ok m)) c.closed.new.self bodies)) (sym c.in-DidClose.is) c.closed.ensures in
    over_none (asked s (Ok c.args.message)) c.closed.new.self c.closed.result _ _ (short_asked s (Ok c.args.message)) acts

pub returns-in-Definition : goal.returns-in-Definition
returns-in-Definition g c =
    let s = c.args.self.now in
    let acts : IfOk c.ask.result (λ bodies. Acts (asked s (Ok c.args.message)) c.ask.new.self bodies) =
    subst (λ (m : LspIn). IfOk c.ask.result (λ bodies. Acts (asked s (Ok m)) c.ask.new.self bodies)) (sym c.in-Definition.is) c.ask.ensures in
    over_none (asked s (Ok c.args.message)) c.ask.new.self c.ask.result _ _ (short_asked s (Ok c.args.message)) acts

pub returns-in-References : goal.returns-in-References
returns-in-References g c =
    let s = c.args.self.now in
    let acts : IfOk c.ask-in-References.result (λ bodies. Acts (asked s (Ok c.args.message)) c.ask-in-References.new.self bodies) =
    subst (λ (m : LspIn). IfOk c.ask-in-References.result (λ bodies. Acts (asked s (Ok m)) c.ask-in-References.new.self bodies)) (sym c.in-References.is) c.ask-in-References.ensures in
    over_none (asked s (Ok c.args.message)) c.ask-in-References.new.self c.ask-in-References.result _ _ (short_asked s (Ok c.args.message)) acts

pub returns-in-Hover : goal.returns-in-Hover
returns-in-Hover g c =
    let s = c.args.self.now in
    let acts : IfOk c.ask-in-Hover.result (λ bodies. Acts (asked s (Ok c.args.message)) c.ask-in-Hover.new.self bodies) =
    subst (λ (m : LspIn). IfOk c.ask-in-Hover.result (λ bodies. Acts (asked s (Ok m)) c.ask-in-Hover.new.self bodies)) (sym c.in-Hover.is) c.ask-in-Hover.ensures in
    over_none (asked s (Ok c.args.message)) c.ask-in-Hover.new.self c.ask-in-Hover.result _ _ (short_asked s (Ok c.args.message)) acts

pub returns-in-DocumentSymbol : goal.returns-in-DocumentSymbol
returns-in-DocumentSymbol g c =
    let s = c.args.self.now in
    let acts : IfOk c.ask-in-DocumentSymbol.result (λ bodies. Acts (asked s (Ok c.args.message)) c.ask-in-DocumentSymbol.new.self bodies) =
    subst (λ (m : LspIn). IfOk c.ask-in-DocumentSymbol.result (λ bodies. Acts (asked s (Ok m)) c.ask-in-DocumentSymbol.new.self bodies)) (sym c.in-DocumentSymbol.is) c.ask-in-DocumentSymbol.ensures in
    over_none (asked s (Ok c.args.message)) c.ask-in-DocumentSymbol.new.self c.ask-in-DocumentSymbol.result _ _ (short_asked s (Ok c.args.message)) acts

pub returns-in-Cancel : goal.returns-in-Cancel
returns-in-Cancel g c =
    let s = c.args.self.now in
    let acts : IfOk c.cancel.result (λ bodies. Acts (asked s (Ok c.args.message)) c.cancel.new.self bodies) =
    subst (λ (m : LspIn). IfOk c.cancel.result (λ bodies. Acts (asked s (Ok m)) c.cancel.new.self bodies)) (sym c.in-Cancel.is) c.cancel.ensures in
    over_none (asked s (Ok c.args.message)) c.cancel.new.self c.cancel.result _ _ (short_asked s (Ok c.args.message)) acts

pub returns-in-Dap : goal.returns-in-Dap
returns-in-Dap g c =
    let s = c.args.self.now in
    let acts : IfOk c.debugged.result (λ bodies. Acts (asked s (Ok c.args.message)) c.debugged.new.self bodies) =
    subst (λ (m : LspIn). IfOk c.debugged.result (λ bodies. Acts (asked s (Ok m)) c.debugged.new.self bodies)) (sym c.in-Dap.is) c.debugged.ensures in
    over_none (asked s (Ok c.args.message)) c.debugged.new.self c.debugged.result _ _ (short_asked s (Ok c.args.message)) acts
