use Rattle.std.proofs.Common.{◌∙◌}
use Rattle.note_rows.proofs.TableLaws.{line-row, text-within}
use Rattle.note_rows.proofs.wording.wording_of.Goals as goal

pub returns-in-MarginText : goal.returns-in-MarginText
returns-in-MarginText c = line-row _ _ _ c.in-MarginText.is c.plain.ensures

pub returns-in-SurplusLines : goal.returns-in-SurplusLines
returns-in-SurplusLines c = line-row _ _ _ c.in-SurplusLines.is c.plain-in-SurplusLines.ensures

pub returns-in-MissingEnd : goal.returns-in-MissingEnd
returns-in-MissingEnd c = line-row _ _ _ c.in-MissingEnd.is c.plain-in-MissingEnd.ensures

pub returns-in-NoOperation : goal.returns-in-NoOperation
returns-in-NoOperation c = line-row _ _ _ c.in-NoOperation.is c.plain-in-NoOperation.ensures

pub returns-in-MissingLine : goal.returns-in-MissingLine
returns-in-MissingLine c = line-row _ _ _ c.in-MissingLine.is c.plain-in-MissingLine.ensures

pub returns-in-OpenApostrophe : goal.returns-in-OpenApostrophe
returns-in-OpenApostrophe c = line-row _ _ _ c.in-OpenApostrophe.is c.plain-in-OpenApostrophe.ensures

pub returns-in-Unreadable : goal.returns-in-Unreadable
returns-in-Unreadable c = line-row _ _ _ c.in-Unreadable.is c.counting.ensures

pub returns-in-NoValue : goal.returns-in-NoValue
returns-in-NoValue c = line-row _ _ _ c.in-NoValue.is c.named.ensures

pub returns-in-OtherType : goal.returns-in-OtherType
returns-in-OtherType c = line-row _ _ _ c.in-OtherType.is c.named-in-OtherType.ensures

pub returns-in-BadSubscript : goal.returns-in-BadSubscript
returns-in-BadSubscript c = line-row _ _ _ c.in-BadSubscript.is c.named-in-BadSubscript.ensures

pub returns-in-Overflow : goal.returns-in-Overflow
returns-in-Overflow c = line-row _ _ _ c.in-Overflow.is c.plain-in-Overflow.ensures

pub returns-in-NoLength : goal.returns-in-NoLength
returns-in-NoLength c = line-row _ _ _ c.in-NoLength.is c.quoting.ensures

pub returns-in-DeclaredTwice : goal.returns-in-DeclaredTwice
returns-in-DeclaredTwice c = line-row _ _ _ c.in-DeclaredTwice.is c.named-in-DeclaredTwice.ensures

pub returns-in-NoNumber : goal.returns-in-NoNumber
returns-in-NoNumber c = line-row _ _ _ c.in-NoNumber.is c.named-in-NoNumber.ensures

pub returns-in-OutsideText : goal.returns-in-OutsideText
returns-in-OutsideText c = line-row _ _ _ c.in-OutsideText.is c.plain-in-OutsideText.ensures

pub returns-in-TextTooLong : goal.returns-in-TextTooLong
returns-in-TextTooLong c = line-row _ _ _ c.in-TextTooLong.is c.plain-in-TextTooLong.ensures

pub returns-in-NoSequenceSymbol : goal.returns-in-NoSequenceSymbol
returns-in-NoSequenceSymbol c = line-row _ _ _ c.in-NoSequenceSymbol.is c.named-in-NoSequenceSymbol.ensures

pub returns-in-BranchLimit : goal.returns-in-BranchLimit
returns-in-BranchLimit c = line-row _ _ _ c.in-BranchLimit.is c.plain-in-BranchLimit.ensures

pub returns-in-NoRecord : goal.returns-in-NoRecord
returns-in-NoRecord c = line-row _ _ _ c.in-NoRecord.is c.plain-in-NoRecord.ensures

pub returns-in-UndefinedOperation : goal.returns-in-UndefinedOperation
returns-in-UndefinedOperation c = line-row _ _ _ c.in-UndefinedOperation.is c.quoting-in-UndefinedOperation.ensures

pub returns-in-LeftOutOperation : goal.returns-in-LeftOutOperation
returns-in-LeftOutOperation c = line-row _ _ _ c.in-LeftOutOperation.is c.quoting-in-LeftOutOperation.ensures

pub returns-in-MissingMend : goal.returns-in-MissingMend
returns-in-MissingMend c = line-row _ _ _ c.in-MissingMend.is c.plain-in-MissingMend.ensures

pub returns-in-BadPrototype : goal.returns-in-BadPrototype
returns-in-BadPrototype c = line-row _ _ _ c.in-BadPrototype.is c.plain-in-BadPrototype.ensures

pub returns-in-OutsideMacro : goal.returns-in-OutsideMacro
returns-in-OutsideMacro c = line-row _ _ _ c.in-OutsideMacro.is c.named-in-OutsideMacro.ensures

pub returns-in-KeywordTwice : goal.returns-in-KeywordTwice
returns-in-KeywordTwice c = line-row _ _ _ c.in-KeywordTwice.is c.named-in-KeywordTwice.ensures

pub returns-in-NestedTooDeep : goal.returns-in-NestedTooDeep
returns-in-NestedTooDeep c = line-row _ _ _ c.in-NestedTooDeep.is c.plain-in-NestedTooDeep.ensures

pub returns-in-AbsentMember : goal.returns-in-AbsentMember
returns-in-AbsentMember c = line-row _ _ _ c.in-AbsentMember.is c.named-in-AbsentMember.ensures

pub returns-in-RecursiveMember : goal.returns-in-RecursiveMember
returns-in-RecursiveMember c = line-row _ _ _ c.in-RecursiveMember.is c.named-in-RecursiveMember.ensures

pub returns-in-UnreadableMember : goal.returns-in-UnreadableMember
returns-in-UnreadableMember c = line-row _ _ _ c.in-UnreadableMember.is c.named-in-UnreadableMember.ensures

pub returns-in-DefinitionTooLong : goal.returns-in-DefinitionTooLong
returns-in-DefinitionTooLong c = line-row _ _ _ c.in-DefinitionTooLong.is c.named-in-DefinitionTooLong.ensures

pub returns-in-BadConstant : goal.returns-in-BadConstant
returns-in-BadConstant c = line-row _ _ _ c.in-BadConstant.is c.plain-in-BadConstant.ensures

pub returns-in-FloatingPoint : goal.returns-in-FloatingPoint
returns-in-FloatingPoint c = line-row _ _ _ c.in-FloatingPoint.is c.plain-in-FloatingPoint.ensures

pub returns-in-BadNominalValue : goal.returns-in-BadNominalValue
returns-in-BadNominalValue c = line-row _ _ _ c.in-BadNominalValue.is c.plain-in-BadNominalValue.ensures

pub returns-in-ValueTooLong : goal.returns-in-ValueTooLong
returns-in-ValueTooLong c = line-row _ _ _ c.in-ValueTooLong.is c.plain-in-ValueTooLong.ensures

pub returns-in-UnknownValue : goal.returns-in-UnknownValue
returns-in-UnknownValue c = line-row _ _ _ c.in-UnknownValue.is c.plain-in-UnknownValue.ensures

pub returns-in-OutsideSection : goal.returns-in-OutsideSection
returns-in-OutsideSection c = line-row _ _ _ c.in-OutsideSection.is c.plain-in-OutsideSection.ensures

pub returns-in-SectionTooLong : goal.returns-in-SectionTooLong
returns-in-SectionTooLong c = line-row _ _ _ c.in-SectionTooLong.is c.plain-in-SectionTooLong.ensures

pub returns-in-DefinedTwice : goal.returns-in-DefinedTwice
returns-in-DefinedTwice c = line-row _ _ _ c.in-DefinedTwice.is c.named-in-DefinedTwice.ensures

pub returns-in-UndefinedSymbol : goal.returns-in-UndefinedSymbol
returns-in-UndefinedSymbol c = line-row _ _ _ c.in-UndefinedSymbol.is c.named-in-UndefinedSymbol.ensures

pub returns-in-NotSimple : goal.returns-in-NotSimple
returns-in-NotSimple c = line-row _ _ _ c.in-NotSimple.is c.plain-in-NotSimple.ensures

pub returns-in-EquWithoutValue : goal.returns-in-EquWithoutValue
returns-in-EquWithoutValue c = line-row _ _ _ c.in-EquWithoutValue.is c.named-in-EquWithoutValue.ensures

pub returns-in-MisplacedQualifier : goal.returns-in-MisplacedQualifier
returns-in-MisplacedQualifier c = line-row _ _ _ c.in-MisplacedQualifier.is c.named-in-MisplacedQualifier.ensures

pub returns-in-WrongOperandCount : goal.returns-in-WrongOperandCount
returns-in-WrongOperandCount c = line-row _ _ _ c.in-WrongOperandCount.is c.plain-in-WrongOperandCount.ensures

pub returns-in-BadRegister : goal.returns-in-BadRegister
returns-in-BadRegister c = line-row _ _ _ c.in-BadRegister.is c.plain-in-BadRegister.ensures

pub returns-in-BadVectorRegister : goal.returns-in-BadVectorRegister
returns-in-BadVectorRegister c = line-row _ _ _ c.in-BadVectorRegister.is c.plain-in-BadVectorRegister.ensures

pub returns-in-BadImmediate : goal.returns-in-BadImmediate
returns-in-BadImmediate c = line-row _ _ _ c.in-BadImmediate.is c.plain-in-BadImmediate.ensures

pub returns-in-NoUsingRange : goal.returns-in-NoUsingRange
returns-in-NoUsingRange c = line-row _ _ _ c.in-NoUsingRange.is c.plain-in-NoUsingRange.ensures

pub returns-in-BadDisplacement : goal.returns-in-BadDisplacement
returns-in-BadDisplacement c = line-row _ _ _ c.in-BadDisplacement.is c.plain-in-BadDisplacement.ensures

pub returns-in-BadLength : goal.returns-in-BadLength
returns-in-BadLength c = line-row _ _ _ c.in-BadLength.is c.plain-in-BadLength.ensures

pub returns-in-OddTarget : goal.returns-in-OddTarget
returns-in-OddTarget c = line-row _ _ _ c.in-OddTarget.is c.plain-in-OddTarget.ensures

pub returns-in-BadUsing : goal.returns-in-BadUsing
returns-in-BadUsing c = line-row _ _ _ c.in-BadUsing.is c.plain-in-BadUsing.ensures

pub returns-in-UnusedRegister : goal.returns-in-UnusedRegister
returns-in-UnusedRegister c = line-row _ _ _ c.in-UnusedRegister.is c.counting-in-UnusedRegister.ensures

pub returns-in-UnusedQualifier : goal.returns-in-UnusedQualifier
returns-in-UnusedQualifier c = line-row _ _ _ c.in-UnusedQualifier.is c.named-in-UnusedQualifier.ensures

pub returns-in-BudgetUsedUp : goal.returns-in-BudgetUsedUp
returns-in-BudgetUsedUp c = line-row _ _ _ c.in-BudgetUsedUp.is c.plain-in-BudgetUsedUp.ensures

pub returns-in-Author : goal.returns-in-Author
returns-in-Author c = line-row _ _ _ c.in-Author.is (c.quoting-in-Author.ensures ∙ text-within 0 c.in-Author.severity c.in-Author.text)
